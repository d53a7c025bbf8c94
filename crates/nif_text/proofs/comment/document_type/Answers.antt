use Rattle.std.proofs.Common.{ℕ, List, refl, ◌∙◌, subst}
use Rattle.nif_text.specs.Parts.{Byte}
use Rattle.nif_text.specs.Comments.{is_type_byte}
use Rattle.nif_text.specs.Reading.{Longest}
use Rattle.nif_text.proofs.Comments.{type_behind}
use Rattle.nif_text.proofs.comment.document_type.Goals as goal

pub returns-clause-no : goal.returns-clause-no
returns-clause-no c f rest p =
    let run = c.behind.ensures.run in
    let Q : List ℕ → Type 0 = λ x. Longest (Byte is_type_byte) run.0 x c.behind.result.now in
    c.eat-2.ensures.no f rest
    (c.go_to.ensures ∙ type_behind c.args.text.now c.eat.new.self (c.if-not-eat.ensures.yes refl) run.0 c.behind.result.now rest
    (subst Q c.rest.ensures.text run.1) p)
