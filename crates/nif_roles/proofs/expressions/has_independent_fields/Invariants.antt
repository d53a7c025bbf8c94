use Rattle.std.proofs.Common.{◌≡◌, map}
use Rattle.nif_schema.specs.Declaration.{field}
use Rattle.nif_schema.specs.Roles.{has_independent_fields}
use Rattle.nif_roles.proofs.FieldLemmas.{left}
use Rattle.nif_roles.proofs.expressions.has_independent_fields.Given as goal

abbrev pub invariant-loop-place : goal.invariant-loop-place
invariant-loop-place l = has_independent_fields (map field l.fields) ≡ has_independent_fields (left l.fields l.place)
