-- A run that has ended is a tree more, and the room that is left.
use Rattle.std.proofs.Common.{ℕ, ◌≡◌, ◌≢◌, ◌+◌, ◌*◌, ◌≤◌, List, [], ◌∷◌, ◌++◌, Option, None, Some, Bool, true, false, if◌then◌else◌, sym, ◌∙◌, ap, arith, subst, min, nat_lt}
use Rattle.std.specs.Prelude.{IfSome}
use Rattle.std.specs.Option.{option_map}
use Rattle.nif_base.specs.Node.{Node}
use Rattle.nif_region.specs.Contents.{Contents, find, ended, cells_built}
use Rattle.nif_region.specs.declared.cells.Cell.{Cell}
use Rattle.nif_cells.specs.Reading.{tree_in}
use Rattle.nif_value.specs.Kept.{IsTree, AreTrees, trees_in, spare_in}
use Rattle.nif_value.proofs.Live.{find-trees, trees-behind, trees-others, same_live}

pub fresh-trees : (a b : List (ℕ × List Cell)) (key : ℕ) → b ≡ a → find b key ≡ None → find (trees_in a) key ≡ None
fresh-trees a b key same none = find-trees a key ∙ ap (option_map tree_in) (subst (λ r. find r key ≡ None) same none)

pub one-more : (a b new : List (ℕ × List Cell)) (key : ℕ) (o : Option (List Cell)) (cells : List Cell) (node : Node) → b ≡ a → o ≡ Some cells → tree_in cells ≡ node → new ≡ ended b key o → trees_in new ≡ trees_in a ++ (key, node) ∷ []
one-more a b new key o cells node same is known made =
    ap trees_in (made ∙ ap (λ r. ended r key o) same ∙ ap (ended a key) is) ∙ trees-behind a key cells ∙ ap (λ n. trees_in a ++ (key, n) ∷ []) known

pub trees-more : (a b new : List (ℕ × List Cell)) (key : ℕ) (cells : List Cell) → AreTrees a → b ≡ a → find new key ≡ Some cells → IsTree cells → ((other : ℕ) → other ≢ key → find new other ≡ find b other) → AreTrees new
trees-more a b new key cells are same is tree others = trees-others b new key (subst AreTrees (sym same) are) (subst (λ o. IfSome o IsTree) (sym is) tree) others

pub others-stay : (a b new : List (ℕ × List Cell)) (key other : ℕ) → b ≡ a → find new other ≡ find b other → find (trees_in new) other ≡ find (trees_in a) other
others-stay a b new key other same is = same_live new b other is ∙ ap (λ r. find (trees_in r) other) same

-- so many cells were taken at most
pub spare-falls : (old new : Contents) (places references references' most : ℕ) → references ≤ references' → old.spare_cells + cells_built old.building ≤ new.spare_cells + cells_built new.building + most → spare_in old places references ≤ spare_in new places references' + most
spare-falls old new places references references' most r l = by (nat_lt places 256) where
  by : (t : Bool) → (if t then 0 else min (old.spare_cells + cells_built old.building) (2 * references + 1)) ≤ (if t then 0 else min (new.spare_cells + cells_built new.building) (2 * references' + 1)) + most
  by true = omega arith
  by false = omega arith

-- so much room is seen where it is there
pub spare-there : (region : Contents) (places references most : ℕ) → region.building ≡ None → most + 1 ≤ spare_in region places references → most + 1 ≤ region.spare_cells
spare-there region places references most none less = by (nat_lt places 256) less where
  by : (t : Bool) → most + 1 ≤ (if t then 0 else min (region.spare_cells + cells_built region.building) (2 * references + 1)) → most + 1 ≤ region.spare_cells
  by true l = absurd (omega arith)
  by false l = let e = ap cells_built none in omega arith
