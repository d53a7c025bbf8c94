use Rattle.std.proofs.Common.{◌≡◌, ℕ, [], Some, Vec, length, slice_get}
use Rattle.std.specs.declared.alloc.Global.{Global}
use Rattle.nif_reasons.proofs.visits.no_children.Given as goal

abbrev pub invariant-loop-number : goal.invariant-loop-number
invariant-loop-number l =
    (length l.below.items ≡ l._number)
    × ((above : ℕ) (numbers : Vec ℕ Global) → slice_get l.below.items above ≡ Some numbers → numbers.items ≡ [])
