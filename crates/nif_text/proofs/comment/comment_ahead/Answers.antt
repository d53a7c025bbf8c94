use Rattle.std.proofs.Common.{ℕ, List, refl, sym, ◌∙◌, subst, codes}
use Rattle.nif_text.specs.Reading.{NoLiteral}
use Rattle.nif_text.proofs.Comments.{comment_never, comment_ends}
use Rattle.nif_text.proofs.comment.comment_ahead.Goals as goal

pub returns-clause-yes : goal.returns-clause-yes
returns-clause-yes c t =
    comment_ends c.args.text.now c.eat.new.self c.go_to_pair.new.text c.eat-3.new.self (c.if-not-eat.ensures.yes refl) c.go_to_pair.ensures.same
    (sym (c.if-eat.ensures.stays refl) ∙ c.eat-3.ensures.yes t)

pub returns-clause-no : goal.returns-clause-no
returns-clause-no c f =
    let Q : List ℕ → Type 0 = λ x. NoLiteral (codes "--->") x in
    comment_never c.args.text.now c.eat.new.self c.go_to_pair.new.text (c.if-not-eat.ensures.yes refl) c.go_to_pair.ensures.same c.go_to_pair.ensures.stops
    (c.if-eat.ensures.no refl) (subst Q (c.if-eat.ensures.stays refl) (c.eat-3.ensures.no f))
