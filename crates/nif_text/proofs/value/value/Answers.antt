use Rattle.std.proofs.Common.{refl, sym, ◌∙◌}
use Rattle.nif_text.proofs.Values.{read_double, read_single}
use Rattle.nif_text.proofs.value.value.Goals as goal

pub returns-then-eat-clause-value : goal.returns-then-eat-clause-value
returns-then-eat-clause-value c =
    read_double c.quoted.result c.args.text.now c.eat.new.self c.quoted.new.text (c.if-eat.ensures.yes refl) c.quoted.ensures.value

pub returns-then-eat-2-clause-value : goal.returns-then-eat-2-clause-value
returns-then-eat-2-clause-value c =
    read_single c.quoted-then-eat-2.result c.args.text.now c.eat-2.new.self c.quoted-then-eat-2.new.text
    (sym (c.if-eat.ensures.stays refl) ∙ c.if-eat-2.ensures.yes refl) c.quoted-then-eat-2.ensures.value
