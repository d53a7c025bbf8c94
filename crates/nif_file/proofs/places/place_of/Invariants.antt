use Rattle.std.proofs.Common.{◌≡◌, map, drop}
use Rattle.nif_schema.specs.Declaration.{field}
use Rattle.nif_file.specs.Heads.{place_in}
use Rattle.nif_file.proofs.FieldPlaces.{shifted}
use Rattle.nif_file.proofs.places.place_of.Given as goal

abbrev pub invariant-loop-place : goal.invariant-loop-place
invariant-loop-place l = place_in l.name (map field l.fields) ≡ shifted l.place (place_in l.name (map field (drop l.place l.fields)))
