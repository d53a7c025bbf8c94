-- How many elements a tree has.
use Rattle.std.proofs.Common.{◌≡◌, ℕ, ◌≤◌, List, [], ◌∷◌, length, refl, ap, arith}
use Rattle.std.specs.List.{AllByRecursion}
use Rattle.nif_text.specs.Tree.{Tree, Trees, Node, End, Then, trees, listed, children_of, elements, elements_in}

pub listed-trees : (xs : List Tree) → listed (trees xs) ≡ xs
listed-trees [] = refl
listed-trees (x ∷ xs) = ap (λ ys. x ∷ ys) (listed-trees xs)

some_element : (t : Tree) → 1 ≤ elements t
some_element (Node name attrs children) = omega arith

length-listed : (ts : Trees) → length (listed ts) ≤ elements_in ts
length-listed End = omega arith
length-listed (Then t ts) = omega (arith, length-listed ts, some_element t)

-- An element has fewer children than elements, and so has each child.
pub few_children : (n : ℕ) (t : Tree) → elements t ≤ n → length (children_of t) ≤ n
few_children n (Node name attrs children) h = omega (arith, length-listed children)

few_in : (n : ℕ) (ts : Trees) → elements_in ts ≤ n → AllByRecursion (λ c. length (children_of c) ≤ n) (listed ts)
few_in n End h = tt
few_in n (Then t ts) h = (few_children n t (omega (arith, h)), few_in n ts (omega (arith, h)))

pub few_below : (n : ℕ) (t : Tree) → elements t ≤ n → AllByRecursion (λ c. length (children_of c) ≤ n) (children_of t)
few_below n (Node name attrs children) h = few_in n children (omega (arith, h))
