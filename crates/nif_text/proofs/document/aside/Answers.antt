use Rattle.std.proofs.Common.{refl}
use Rattle.nif_text.proofs.Documents.{aside_never}
use Rattle.nif_text.proofs.document.aside.Goals as goal

pub returns-clause-no : goal.returns-clause-no
returns-clause-no c f = aside_never c.args.text.now c.eat_byte.new.self (c.if-eat_byte.ensures.stays refl) (c.if-eat_byte.ensures.no refl) (c.comment.ensures.no f)
