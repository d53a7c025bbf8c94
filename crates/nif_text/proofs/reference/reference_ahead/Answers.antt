use Rattle.std.proofs.Common.{refl, sym, ◌∙◌}
use Rattle.nif_text.proofs.References.{some_hexadecimal, some_decimal, none_hexadecimal, none_decimal}
use Rattle.nif_text.proofs.reference.reference_ahead.Goals as goal

pub returns-then-eat-clause-some : goal.returns-then-eat-clause-some
returns-then-eat-clause-some c =
    some_hexadecimal c.number_at.result c.args.text.now c.named.new.text c.eat.new.self c.number_at.new.text
    (sym c.in_default.ensures.stays) (c.if-eat.ensures.yes refl) c.number_at.ensures.some

pub returns-then-eat-clause-none : goal.returns-then-eat-clause-none
returns-then-eat-clause-none c =
    none_hexadecimal c.number_at.result c.args.text.now c.named.new.text c.eat.new.self
    (sym c.in_default.ensures.stays) c.in_default.ensures.none (c.if-eat.ensures.yes refl) c.number_at.ensures.none

pub returns-then-eat-2-clause-some : goal.returns-then-eat-2-clause-some
returns-then-eat-2-clause-some c =
    some_decimal c.number_at-then-eat-2.result c.args.text.now c.eat.new.self c.eat-2.new.self c.number_at-then-eat-2.new.text
    (sym c.in_default.ensures.stays ∙ sym (c.if-eat.ensures.stays refl)) (c.if-eat-2.ensures.yes refl) c.number_at-then-eat-2.ensures.some

pub returns-then-eat-2-clause-none : goal.returns-then-eat-2-clause-none
returns-then-eat-2-clause-none c =
    none_decimal c.number_at-then-eat-2.result c.args.text.now c.named.new.text c.eat.new.self c.eat-2.new.self
    (sym c.in_default.ensures.stays) (sym (c.if-eat.ensures.stays refl)) c.in_default.ensures.none (c.if-eat.ensures.no refl)
    (c.if-eat-2.ensures.yes refl) c.number_at-then-eat-2.ensures.none
