use Rattle.std.proofs.Common.{◌≡◌, map}
use Rattle.nif_schema.specs.Declaration.{field}
use Rattle.nif_schema.specs.Roles.{is_after_version}
use Rattle.nif_roles.proofs.FieldLemmas.{left}
use Rattle.nif_roles.proofs.fields.is_after_version.Given as goal

abbrev pub invariant-loop-place : goal.invariant-loop-place
invariant-loop-place l = is_after_version l.name (map field l.fields) ≡ is_after_version l.name (left l.fields l.place)
