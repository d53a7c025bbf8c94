use Rattle.std.proofs.Common.{◌≡◌, drop}
use Rattle.nif_schema.specs.Schema.{line}
use Rattle.nif_decode.proofs.members.field_at.Given as goal

-- the fields behind those that were passed
abbrev pub invariant-loop-passed : goal.invariant-loop-passed
invariant-loop-passed l = l.fields ≡ drop l._passed (line l.schema l.kind)
