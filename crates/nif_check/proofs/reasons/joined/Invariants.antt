use Rattle.std.proofs.Common.{◌≡◌, ℕ, ◌<◌, length, Bool, Option, Some, slice_get}
use Rattle.nif_schema.specs.declared.faults.Closed.{Closed}
use Rattle.nif_check.specs.Results.{with_uses}
use Rattle.nif_check.proofs.reasons.joined.Given as goal

abbrev pub invariant-loop-place : goal.invariant-loop-place
invariant-loop-place l = record {
  count : length l.reasons.items ≡ l.place;
  each : (number : ℕ) (reason : Option Closed) (mark : Bool) → number < l.place → slice_get l.own number ≡ Some reason → slice_get l.reaches number ≡ Some mark
      → slice_get l.reasons.items number ≡ Some (with_uses reason mark);
}
