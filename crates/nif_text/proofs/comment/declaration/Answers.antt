use Rattle.std.proofs.Common.{refl}
use Rattle.nif_text.proofs.Comments.{declaration_never}
use Rattle.nif_text.proofs.comment.declaration.Goals as goal

pub returns-clause-no : goal.returns-clause-no
returns-clause-no c f =
    declaration_never c.args.text.now c.eat.new.self c.go_to_pair.new.text (c.if-not-eat.ensures.yes refl) c.go_to_pair.ensures.same c.go_to_pair.ensures.stops
    (c.eat-2.ensures.no f)
