use Rattle.std.proofs.Common.{◌∙◌, ap, map, sym}
use Rattle.std.specs.Prelude.{bytes_eq}
use Rattle.nif_schema.specs.Declaration.{field}
use Rattle.nif_file.specs.Heads.{place_in}
use Rattle.nif_file.proofs.FieldPlaces.{place_here, place_later}
use Rattle.nif_file.proofs.places.place_of.Goals as goal

pub returns-then-is_name : goal.returns-then-is_name
returns-then-is_name c =
    let name = c.args.name.now in
    let fields = c.args.fields.now in
    sym (place_here name fields c.loop-place.place c.get.result.now (place_in name (map field fields)) c.get.ensures (ap (bytes_eq name) (sym c.bytes.ensures) ∙ sym c.is_name.ensures ∙ c.if-is_name.true) c.loop-place.invariant)

pub loop-place-preserved : goal.loop-place-preserved
loop-place-preserved c =
    let name = c.args.name.now in
    let fields = c.args.fields.now in
    place_later name fields c.loop-place.place c.get.result.now (place_in name (map field fields)) c.get.ensures (ap (bytes_eq name) (sym c.bytes.ensures) ∙ sym c.is_name.ensures ∙ c.if-is_name.false) c.loop-place.invariant
