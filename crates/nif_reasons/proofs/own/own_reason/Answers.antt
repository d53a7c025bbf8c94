use Rattle.std.proofs.Common.{◌∷◌, [], None, sym, ap, ◌∙◌}
use Rattle.nif_schema.specs.Schema.{fields_of}
use Rattle.nif_schema.specs.Reasons.{first_reason, fields_reason}
use Rattle.nif_reasons.specs.Ways.{has_struct, last_or}
use Rattle.nif_reasons.proofs.ReasonLemmas.{on}
use Rattle.nif_reasons.proofs.OwnLemmas.{own-whole}
use Rattle.nif_reasons.proofs.WayLemmas.{last-push, parent-on, way-line}
use Rattle.nif_reasons.proofs.own.own_reason.Goals as goal

pub back_to-requires-clause-there : goal.back_to-requires-clause-there
back_to-requires-clause-there c = λ p e.
    parent-on c.args.schema.now c.args.way.now.stack.items c.args.number c.requires.at.way c.requires.next p (sym c.parent.ensures.value ∙ e)

pub returns-clause-last : goal.returns-clause-last
returns-clause-last c = on c.enter.result c.enter.ensures.way (λ reason grown.
    ap (last_or None) grown ∙ last-push None c.back_to.new.way.stack.items c.args.number)

pub returns-clause-reason : goal.returns-clause-reason
returns-clause-reason c = on c.enter.result c.enter.ensures.reason (λ reason is.
    let S = c.args.schema.now in
    let n = c.args.number in
    let early = c.early_reason-early.result in
    let up = sym c.parent.ensures.value ∙ c.back_to.ensures.last in
    is
    ∙ ap (λ l. first_reason (early ∷ fields_reason S (has_struct S n) l (fields_of S n) ∷ [])) (way-line S c.back_to.new.way.stack.items n c.back_to.ensures.at.way up c.requires.rooted.ends)
    ∙ own-whole S n c.requires.rooted.within early c.early_reason-early.ensures)
