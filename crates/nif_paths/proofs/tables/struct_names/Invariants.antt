use Rattle.std.proofs.Common.{map, take}
use Rattle.nif_schema.specs.Declaration.{field}
use Rattle.nif_paths.specs.Shaped.{HasFields}
use Rattle.nif_paths.proofs.tables.struct_names.Given as goal

abbrev pub invariant-loop-place : goal.invariant-loop-place
invariant-loop-place l = HasFields l.schema (map field (take l.place l.fields)) l.names
