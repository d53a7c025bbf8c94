use Rattle.std.proofs.Common.{◌≡◌, ℕ, ◌<◌, length, Option, Some, is_some, slice_get}
use Rattle.nif_schema.specs.declared.faults.Closed.{Closed}
use Rattle.nif_check.proofs.reasons.marks_of.Given as goal

abbrev pub invariant-loop-reason : goal.invariant-loop-reason
invariant-loop-reason l = record {
  count : length l.marks.items ≡ l.reason-index;
  each : (number : ℕ) (reason : Option Closed) → number < l.reason-index → slice_get l.own number ≡ Some reason → slice_get l.marks.items number ≡ Some (is_some reason);
}
