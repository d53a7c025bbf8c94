use Rattle.std.proofs.Common.{◌≡◌, ◌<◌, ◌⊎◌, ℕ, None, Some, Contains, drop, length, slice_get}
use Rattle.nif_schema.specs.Reasons.{own_reason}
use Rattle.nif_reasons.specs.Visits.{AreInOrder}
use Rattle.nif_reasons.specs.Ways.{IsAt, last_or}
use Rattle.nif_reasons.proofs.own.reasons_along.Given as goal

abbrev pub invariant-loop-number : goal.invariant-loop-number
invariant-loop-number l = record {
  count : length l.reasons.items ≡ length l.schema;
  each : (k : ℕ) → k < length l.schema → (slice_get l.reasons.items k ≡ Some (own_reason l.schema k)) ⊎ Contains (drop l.number-index l.order) k;
  at : IsAt l.schema l.way.stack.items l.way.line;
  next : AreInOrder l.schema (last_or None l.way.stack.items) (drop l.number-index l.order);
}
