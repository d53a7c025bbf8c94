use Rattle.std.proofs.Common.{◌∷◌, [], map, take, sym, ap, subst, ◌∙◌}
use Rattle.std.proofs.lemmas.List.{map-append}
use Rattle.nif_schema.specs.Declaration.{field}
use Rattle.nif_paths.specs.Shaped.{HasFields}
use Rattle.nif_paths.proofs.Lists.{take-next}
use Rattle.nif_paths.proofs.tables.struct_names.Goals as goal

pub loop-place-preserved : goal.loop-place-preserved
loop-place-preserved c =
    let fields = c.args.fields.now in
    let f = c.get.result.now in
    let place = c.loop-place.place in
    subst (λ l. HasFields c.args.schema.now l c.push_field.new.names)
    (sym (ap (map field) (take-next fields place f c.get.ensures) ∙ map-append field (take place fields) (f ∷ [])))
    (c.in-Ok.ensures.fields (map field (take place fields)) c.loop-place.invariant)
