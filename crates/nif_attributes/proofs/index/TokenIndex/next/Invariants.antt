use Rattle.std.proofs.Common.{◌≡◌, ℕ, ◌<◌, ◌≤◌, eqb, true, List, length, take, Some}
use Rattle.std.specs.List.{slice_get, list_any}
use Rattle.nif_attributes.specs.Finding.{IsIndex, IsAbsent}
use Rattle.nif_attributes.proofs.index.TokenIndex.next.Given as goal

abbrev pub invariant-loop-size : goal.invariant-loop-size
invariant-loop-size l = record {
  low : l.from ≤ l.best;
  high : l.best ≤ l.most;
  none : (texts : List (List ℕ)) → IsIndex l.self texts → (n : ℕ) (token : List ℕ) → l.from ≤ n → n < l.best
      → slice_get texts n ≡ Some token → list_any (eqb (length token)) (take l.size-index l.size-items) ≡ true → IsAbsent l.text token;
}
