use Rattle.std.proofs.Common.{refl, sym, ◌∙◌}
use Rattle.nif_text.specs.References.{Less, Greater, Ampersand, Quote, Apostrophe}
use Rattle.nif_text.proofs.reference.named.Goals as goal

pub returns-then-eat-clause-some : goal.returns-then-eat-clause-some
returns-then-eat-clause-some c = Less (c.if-eat.ensures.yes refl)

pub returns-then-eat-2-clause-some : goal.returns-then-eat-2-clause-some
returns-then-eat-2-clause-some c = Greater (sym (c.if-eat.ensures.stays refl) ∙ c.if-eat-2.ensures.yes refl)

pub returns-then-eat-3-clause-some : goal.returns-then-eat-3-clause-some
returns-then-eat-3-clause-some c =
    Ampersand (sym (c.if-eat.ensures.stays refl) ∙ sym (c.if-eat-2.ensures.stays refl) ∙ c.if-eat-3.ensures.yes refl)

pub returns-then-eat-4-clause-some : goal.returns-then-eat-4-clause-some
returns-then-eat-4-clause-some c =
    Quote (sym (c.if-eat.ensures.stays refl) ∙ sym (c.if-eat-2.ensures.stays refl) ∙ sym (c.if-eat-3.ensures.stays refl) ∙ c.if-eat-4.ensures.yes refl)

pub returns-then-eat-5-clause-some : goal.returns-then-eat-5-clause-some
returns-then-eat-5-clause-some c =
    Apostrophe (sym (c.if-eat.ensures.stays refl) ∙ sym (c.if-eat-2.ensures.stays refl) ∙ sym (c.if-eat-3.ensures.stays refl) ∙ sym (c.if-eat-4.ensures.stays refl)
    ∙ c.if-eat-5.ensures.yes refl)
