use Rattle.std.proofs.Common.{◌≡◌, true, false, ◌++◌, Some, sym, ap, ◌∙◌}
use Rattle.std.proofs.lemmas.Option.{get_or_from_slice_get}
use Rattle.nif_schema.specs.Declaration.{field}
use Rattle.nif_schema.specs.Uses.{is_generic}
use Rattle.nif_uses.specs.Users.{pairs, uses_by}
use Rattle.nif_uses.proofs.Links.{field-uses, uses-push}
use Rattle.nif_uses.proofs.users.Users.add_field.Goals as goal

pub returns-in_ok-add-in-Some-named_template-clause-links : goal.returns-in_ok-add-in-Some-named_template-clause-links
returns-in_ok-add-in-Some-named_template-clause-links c =
    let s = c.args.schema.now in
    let f = field c.args.of.now in
    let kind = c.in-Some.kind in
    let generic : is_generic s kind ≡ true =
    sym (get_or_from_slice_get c.args.generic.now kind (is_generic s kind) false (c.requires.generic kind c.in-Some.ensures.within)) ∙ c.if-not-generic-kind.false
    in
    let template = c.in-Some-named_template.template in
    let used = field-uses s f kind (Some template) (sym c.named.ensures.value ∙ c.in-Some.is) generic (sym c.named_template.ensures.value ∙ c.in-Some-named_template.is) in
    uses-push (pairs c.args.self.now.links.items) (pairs c.add.new.self.links.items) (pairs c.add-in-Some-named_template.new.self.links.items) kind template c.args.user
    c.in_ok-add.ensures.links c.in_ok-add-in-Some-named_template.ensures.links
    ∙ ap (λ us. pairs c.args.self.now.links.items ++ uses_by c.args.user us) (sym used)
