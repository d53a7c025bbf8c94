use Rattle.std.proofs.Common.{◌≡◌, drop}
use Rattle.nif_schema.specs.Schema.{Schema}
use Rattle.nif_paths.specs.Shaped.{AreInsides}
use Rattle.nif_paths.specs.Marks.{types_stop}
use Rattle.nif_paths.proofs.types.types_stop.Given as goal

abbrev pub invariant-loop-place : goal.invariant-loop-place
invariant-loop-place l = (schema : Schema) → AreInsides schema l.tables → types_stop schema l.types (drop 1 l.path) ≡ types_stop schema l.at.items (drop l.place l.path)
