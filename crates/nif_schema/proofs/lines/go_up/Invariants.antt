use Rattle.std.proofs.Common.{◌≡◌, ◌<◌, length, Some}
use Rattle.nif_schema.specs.Schema.{ancestor}
use Rattle.nif_schema.proofs.lines.go_up.Given as goal

abbrev pub invariant-loop-done : goal.invariant-loop-done
invariant-loop-done l = (l.at < length l.schema) × (ancestor l.schema l._done l.number ≡ Some l.at)
