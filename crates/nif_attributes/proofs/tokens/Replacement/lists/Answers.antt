use Rattle.std.proofs.Common.{arith, ap, sym, ◌∙◌}
use Rattle.std.specs.Str.{bytes_eq}
use Rattle.nif_attributes.specs.declared.tokens.Attribute.TheVariants as the
use Rattle.nif_attributes.specs.Tokens.{name_of_attribute}
use Rattle.nif_attributes.proofs.Groups.{lists_found}
use Rattle.nif_attributes.proofs.tokens.Replacement.lists.Goals as goal

pub returns-then-eq : goal.returns-then-eq
returns-then-eq c =
    let h = c.if-eq.ensures in
    lists_found (name_of_attribute c.args.attribute) c.args.self.now.names c.self.inside.attributes.items c.deref-other-items.result.now c.loop-other.other-index the.Name
    (ap (λ g. g.names) c.self.view_is) c.deref-other-items.ensures.value (omega arith)
    ((λ i. bytes_eq (sym c.name.ensures i) (sym c.name-in-loop-other.ensures i)) ∙ sym h)
