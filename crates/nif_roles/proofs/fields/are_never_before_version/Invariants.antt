use Rattle.std.proofs.Common.{◌≡◌, map, drop}
use Rattle.nif_schema.specs.Declaration.{field}
use Rattle.nif_roles.proofs.FieldLemmas.{left, are_never}
use Rattle.nif_roles.proofs.fields.are_never_before_version.Given as goal

abbrev pub invariant-loop-place : goal.invariant-loop-place
invariant-loop-place l = are_never (drop 1 (map field l.fields)) ≡ are_never (left l.fields l.place)
