use Rattle.std.proofs.Common.{◌≡◌, [], Option, ℕ, Some, None, codes, sym, ap, ◌∙◌}
use Rattle.std.specs.Option.{option_map_or}
use Rattle.nif_schema.specs.Schema.{find, fields_of}
use Rattle.nif_schema.specs.Roles.{are_sized, sized_fields}
use Rattle.nif_roles.proofs.lists.has_sized_fields.Goals as goal

pub returns-in-Some : goal.returns-in-Some
unfolding sized_fields
returns-in-Some c =
    let s = c.args.schema.now in
    let found : find s (codes "SizedString") ≡ Some c.in-Some.number = sym (c.find.ensures.value ∙ ap (find s) c.as_slice.ensures) ∙ c.in-Some.is in
    c.are_sized.ensures ∙ ap (are_sized s) (c.fields_of.ensures ∙ sym (ap (λ (o : Option ℕ). option_map_or (fields_of s) o []) found))

pub returns-in-None : goal.returns-in-None
unfolding sized_fields
returns-in-None c =
    let s = c.args.schema.now in
    let found : find s (codes "SizedString") ≡ None = sym (c.find.ensures.value ∙ ap (find s) c.as_slice.ensures) ∙ c.in-None.is in
    sym (ap (λ (o : Option ℕ). are_sized s (option_map_or (fields_of s) o [])) found)
