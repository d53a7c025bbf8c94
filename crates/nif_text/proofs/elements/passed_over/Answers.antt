use Rattle.std.proofs.Common.{refl}
use Rattle.nif_text.proofs.Nesting.{passed_never}
use Rattle.nif_text.proofs.elements.passed_over.Goals as goal

pub returns-clause-no : goal.returns-clause-no
returns-clause-no c f =
    passed_never c.args.text.now c.eat_byte.new.self c.reference.new.text (c.if-eat_byte.ensures.stays refl) c.in_default.ensures.stays
    (c.if-eat_byte.ensures.no refl) c.in_default.ensures.none (c.comment.ensures.no f)
