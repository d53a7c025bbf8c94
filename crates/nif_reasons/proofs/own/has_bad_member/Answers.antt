use Rattle.std.proofs.Common.{◌+◌, ◌||◌, drop, sym, ap, ◌∙◌}
use Rattle.std.specs.List.{list_any}
use Rattle.nif_schema.specs.Reasons.{is_bad_member}
use Rattle.nif_reasons.proofs.Lists.{drop-next}
use Rattle.nif_reasons.proofs.own.has_bad_member.Goals as goal

pub returns-then-is_bad_member : goal.returns-then-is_bad_member
returns-then-is_bad_member c =
    let p = is_bad_member c.args.width in
    let ms = c.args.members.now in
    let place = c.loop-place.place in
    sym (c.loop-place.invariant ∙ ap (list_any p) (drop-next ms place c.get.result.now c.get.ensures) ∙ ap (λ b. b || list_any p (drop (place + 1) ms)) (sym c.if-is_bad_member.ensures))

pub loop-place-preserved : goal.loop-place-preserved
loop-place-preserved c =
    let p = is_bad_member c.args.width in
    let ms = c.args.members.now in
    let place = c.loop-place.place in
    c.loop-place.invariant ∙ ap (list_any p) (drop-next ms place c.get.result.now c.get.ensures) ∙ ap (λ b. b || list_any p (drop (place + 1) ms)) (sym c.if-is_bad_member.ensures)
