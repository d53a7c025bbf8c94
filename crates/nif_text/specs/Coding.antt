-- What a struct needs that is seen as a tree: a code for trees, and that no child is as deep as its parent.
use Rattle.std.specs.Prelude.{ℕ, ◌≡◌, ◌+◌, ◌≤◌, List, [], ◌∷◌, refl}
use Rattle.std.proofs.Common.{sym, ◌∙◌, ap, arith}
use Rattle.std.specs.Coded.{Coded}
use denote.Param.Weighed.{most}
use base.Stored.{Gv, gnil, gnum, gcons, num}
use Rattle.nif_text.specs.Tree.{Tree, Trees, Node, End, Then, trees, depth, depths}

abbrev pub code_bytes : List ℕ → Gv
code_bytes [] = gnil
code_bytes (b ∷ bs) = gcons (gnum b) (code_bytes bs)

abbrev pub back_bytes : Gv → List ℕ
back_bytes gnil = []
back_bytes (gnum n) = []
back_bytes (gcons a b) = num a ∷ back_bytes b

abbrev pub first : Gv → Gv
first gnil = gnil
first (gnum n) = gnil
first (gcons a b) = a

abbrev pub second : Gv → Gv
second gnil = gnil
second (gnum n) = gnil
second (gcons a b) = b

abbrev pub code_pairs : List (List ℕ × List ℕ) → Gv
code_pairs [] = gnil
code_pairs (p ∷ ps) = gcons (gcons (code_bytes p.0) (code_bytes p.1)) (code_pairs ps)

abbrev pub back_pairs : Gv → List (List ℕ × List ℕ)
back_pairs gnil = []
back_pairs (gnum n) = []
back_pairs (gcons a b) = (back_bytes (first a), back_bytes (second a)) ∷ back_pairs b

abbrev mutual
  pub code : Tree → Gv
  code (Node name attrs children) = gcons (gcons (code_bytes name) (code_pairs attrs)) (code_all children)

  pub code_all : Trees → Gv
  code_all End = gnil
  code_all (Then tree rest) = gcons (code tree) (code_all rest)

abbrev mutual
  pub back : Gv → Tree
  back gnil = Node [] [] End
  back (gnum n) = Node [] [] End
  back (gcons a b) = Node (back_bytes (first a)) (back_pairs (second a)) (back_all b)

  pub back_all : Gv → Trees
  back_all gnil = End
  back_all (gnum n) = End
  back_all (gcons a b) = Then (back a) (back_all b)

pub back_bytes-code : (bs : List ℕ) → back_bytes (code_bytes bs) ≡ bs
back_bytes-code [] = refl
back_bytes-code (b ∷ bs) = ap (λ x. b ∷ x) (back_bytes-code bs)

pub back_pairs-code : (ps : List (List ℕ × List ℕ)) → back_pairs (code_pairs ps) ≡ ps
back_pairs-code [] = refl
back_pairs-code (p ∷ ps) = λ i. (back_bytes-code p.0 i, back_bytes-code p.1 i) ∷ back_pairs-code ps i

mutual
  pub back-code : (tree : Tree) → back (code tree) ≡ tree
  back-code (Node name attrs children) = λ i. Node (back_bytes-code name i) (back_pairs-code attrs i)
      (back_all-code children i)

  pub back_all-code : (all : Trees) → back_all (code_all all) ≡ all
  back_all-code End = refl
  back_all-code (Then tree rest) = λ i. Then (back-code tree i) (back_all-code rest i)

abbrev pub coded_tree : Coded Tree
coded_tree = record { code = code; inj = λ x y p. sym (back-code x) ∙ ap back p ∙ back-code y }

-- no child is as deep as its parent
pub most_le-depths : (children : List Tree) → most (λ t. depth t + 1) children ≤ 1 + depths (trees children)
most_le-depths [] = omega arith
most_le-depths (t ∷ ts) = omega (arith, most_le-depths ts)
