-- An element as a plain tree.
use Rattle.std.specs.Prelude.{ℕ, ◌+◌, List, [], ◌∷◌, max}

mutual
  -- An element has a name, its attributes in their order, each a name and a value, and the elements that stand right
  -- in it.
  pub data Tree : Type 0 where
    Node : (name : List ℕ) → (attrs : List (List ℕ × List ℕ)) → (children : Trees) → Tree

  -- elements one behind another
  pub data Trees : Type 0 where
    End : Trees
    Then : Tree → Trees → Trees

abbrev pub name_of : Tree → List ℕ
name_of (Node name attrs children) = name

abbrev pub attrs_of : Tree → List (List ℕ × List ℕ)
attrs_of (Node name attrs children) = attrs

-- the elements as a list
abbrev pub listed : Trees → List Tree
listed End = []
listed (Then tree rest) = tree ∷ listed rest

abbrev pub children_of : Tree → List Tree
children_of (Node name attrs children) = listed children

-- and back
abbrev pub trees : List Tree → Trees
trees [] = End
trees (tree ∷ rest) = Then tree (trees rest)

-- how deep elements nest
abbrev mutual
  pub depth : Tree → ℕ
  depth (Node name attrs children) = 1 + depths children

  pub depths : Trees → ℕ
  depths End = 0
  depths (Then tree rest) = max (depth tree) (depths rest)

-- how many elements a tree has, itself counted
abbrev mutual
  pub elements : Tree → ℕ
  elements (Node name attrs children) = 1 + elements_in children

  pub elements_in : Trees → ℕ
  elements_in End = 0
  elements_in (Then tree rest) = elements tree + elements_in rest
