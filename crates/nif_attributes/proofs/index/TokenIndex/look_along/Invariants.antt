use Rattle.std.proofs.Common.{◌≡◌, ℕ, ◌<◌, ◌≤◌, List, length, take, drop, Some}
use Rattle.std.specs.List.{slice_get}
use Rattle.nif_attributes.specs.Finding.{IsIndex}
use Rattle.nif_attributes.proofs.index.TokenIndex.look_along.Given as goal

abbrev pub invariant-loop-place : goal.invariant-loop-place
invariant-loop-place l = record {
  low : l.from ≤ l.best;
  high : l.best ≤ l.most;
  none : (texts : List (List ℕ)) → IsIndex l.self texts → (n : ℕ) (token : List ℕ) → l.from ≤ n → n < l.best
      → slice_get texts n ≡ Some token → length token ≡ l.size → (place : ℕ) → place < l.place → take l.size (drop place l.text) ≡ token → ⊥;
}
