use Rattle.std.proofs.Common.{map}
use Rattle.nif_schema.specs.Declaration.{field}
use Rattle.nif_schema.specs.Roles.{of_name}
use Rattle.nif_roles.proofs.FieldLemmas.{left, IsFound}
use Rattle.nif_roles.proofs.fields.find_named.Given as goal

abbrev pub invariant-loop-place : goal.invariant-loop-place
invariant-loop-place l = IsFound (of_name l.name (map field l.fields)) l.found (of_name l.name (left l.fields l.place))
