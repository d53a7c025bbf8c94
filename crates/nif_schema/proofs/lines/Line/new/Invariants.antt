use Rattle.std.proofs.Common.{◌≡◌, ◌<◌, length, Some}
use Rattle.nif_schema.specs.Schema.{ancestor}
use Rattle.nif_schema.proofs.lines.Line.new.Given as goal

abbrev pub invariant-loop-above : goal.invariant-loop-above
invariant-loop-above l = (l.number < length l.schema) × (ancestor l.schema l.above l.own ≡ Some l.number)
