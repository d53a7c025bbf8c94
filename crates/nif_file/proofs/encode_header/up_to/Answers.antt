use Rattle.std.proofs.Common.{◌≡◌, ◌+◌, Option, ℕ, suc, map, length, sym, ◌∙◌, ap, add-one, arith}
use Rattle.std.proofs.lemmas.List.{length-map}
use Rattle.std.specs.Option.{option_map_or}
use Rattle.nif_schema.specs.Declaration.{field}
use Rattle.nif_file.specs.PartsText.{up_to}
use Rattle.nif_file.proofs.FieldPlaces.{up_to_place}
use Rattle.nif_file.proofs.HeaderTexts.{up_to_within}
use Rattle.nif_file.proofs.encode_header.up_to.Goals as goal

pub overflow_add-result : goal.overflow_add-result
overflow_add-result c =
    let fields = map field c.args.fields.now in
    let here : c.in-Some.place + 1 ≡ up_to c.args.name.now fields =
    add-one c.in-Some.place ∙ ap (λ (o : Option ℕ). option_map_or (λ k. suc k) o (length fields)) (sym c.in-Some.is ∙ c.place_of.ensures) ∙ sym (up_to_place c.args.name.now fields) in
    omega (arith, here, up_to_within c.args.name.now fields, length-map c.args.fields.now field, c.len-all.ensures, c.len-all.type_inv)

pub returns-in-Some : goal.returns-in-Some
returns-in-Some c =
    let fields = map field c.args.fields.now in
    add-one c.in-Some.place ∙ ap (λ (o : Option ℕ). option_map_or (λ k. suc k) o (length fields)) (sym c.in-Some.is ∙ c.place_of.ensures) ∙ sym (up_to_place c.args.name.now fields)

pub returns-in-None : goal.returns-in-None
returns-in-None c =
    let fields = map field c.args.fields.now in
    c.len-all.ensures ∙ sym (length-map c.args.fields.now field) ∙ ap (λ (o : Option ℕ). option_map_or (λ k. suc k) o (length fields)) (sym c.in-None.is ∙ c.place_of.ensures) ∙ sym (up_to_place c.args.name.now fields)
