use Rattle.std.proofs.Common.{◌≡◌, ◌<◌, ℕ, Some, length, slice_get}
use Rattle.nif_schema.specs.declared.faults.Closed.TheVariants.{C3}
use Rattle.nif_reasons.proofs.own.endless.Given as goal

abbrev pub invariant-loop-number : goal.invariant-loop-number
invariant-loop-number l =
    (length l.reasons.items ≡ l._number) × ((k : ℕ) → k < l._number → slice_get l.reasons.items k ≡ Some (Some C3))
