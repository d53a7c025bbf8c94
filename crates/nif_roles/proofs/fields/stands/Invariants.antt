use Rattle.std.proofs.Common.{◌≡◌, map}
use Rattle.std.specs.List.{list_any}
use Rattle.nif_schema.specs.Declaration.{field}
use Rattle.nif_schema.specs.Roles.{is_named}
use Rattle.nif_roles.proofs.FieldLemmas.{left}
use Rattle.nif_roles.proofs.fields.stands.Given as goal

abbrev pub invariant-loop-place : goal.invariant-loop-place
invariant-loop-place l = list_any (is_named l.name) (map field l.fields) ≡ list_any (is_named l.name) (left l.fields l.place)
