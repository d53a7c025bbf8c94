use Rattle.std.proofs.Common.{ℕ, List, refl, ◌∙◌, subst}
use Rattle.nif_text.specs.Comments.{Comment}
use Rattle.nif_text.specs.Reading.{NeverTo}
use Rattle.nif_text.proofs.comment.comment.Goals as goal

pub returns-then-not-comment_ahead-clause-no : goal.returns-then-not-comment_ahead-clause-no
returns-then-not-comment_ahead-clause-no c _ =
    let Q : List ℕ → Type 0 = λ x. NeverTo Comment x in
    subst Q (c.new-ahead.ensures ∙ c.rest.ensures.text) (c.if-not-comment_ahead.ensures.no refl)
