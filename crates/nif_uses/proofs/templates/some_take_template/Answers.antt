use Rattle.std.proofs.Common.{◌+◌, ◌||◌, map, drop, sym, ap, ◌∙◌, arith}
use Rattle.std.specs.List.{list_any}
use Rattle.nif_schema.specs.Declaration.{field}
use Rattle.nif_schema.specs.Uses.{takes_template}
use Rattle.nif_uses.proofs.Lists.{any-at, drop_past}
use Rattle.nif_uses.proofs.templates.some_take_template.Goals as goal

pub returns-then-takes_template : goal.returns-then-takes_template
returns-then-takes_template c =
    let fields = c.args.fields.now in
    let place = c.loop-place.place in
    sym (c.loop-place.invariant ∙ any-at takes_template field fields place c.get.result.now c.get.ensures
    ∙ ap (λ b. b || list_any takes_template (map field (drop (place + 1) fields))) (sym c.takes_template.ensures ∙ c.if-takes_template.true))

pub loop-place-preserved : goal.loop-place-preserved
loop-place-preserved c =
    let fields = c.args.fields.now in
    let place = c.loop-place.place in
    c.loop-place.invariant ∙ any-at takes_template field fields place c.get.result.now c.get.ensures
    ∙ ap (λ b. b || list_any takes_template (map field (drop (place + 1) fields))) (sym c.takes_template.ensures ∙ c.if-takes_template.false)

pub returns : goal.returns
returns c =
    sym (c.loop-place.invariant ∙ ap (λ l. list_any takes_template (map field l)) (drop_past c.args.fields.now c.loop-place.place (omega (arith, c.len-place-end.ensures))))
