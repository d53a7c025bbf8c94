use Rattle.std.proofs.Common.{◌∷◌, [], ap, ◌∙◌}
use Rattle.nif_expr.specs.Bytes.{trimmed}
use Rattle.nif_expr.proofs.PathLemmas.{way_begun, way_ended, way_longer, way_less, way_done}
use Rattle.nif_expr.proofs.parts.path.Goals as goal

pub loop-next-init : goal.loop-next-init
loop-next-init c =
    way_begun c.args.text.now c.in_ok-path.path c.split.result.1.now c.if-not-begins.ensures
    (c.in_ok-path.ensures ∙ ap (λ x. x ∷ []) (c.in_ok-first.ensures ∙ c.trimmed.ensures ∙ ap trimmed c.split.ensures.front))
    c.split.ensures.after

pub returns-then-not-begins-2 : goal.returns-then-not-begins-2
returns-then-not-begins-2 c =
    way_ended c.args.text.now c.loop-next.path c.loop-next.rest.now c.in-Some.next.now c.split-in-Some.result.1.now c.loop-next.invariant
    c.in-Some.ensures c.split-in-Some.ensures.after c.if-not-begins-2.ensures

pub loop-next-smaller : goal.loop-next-smaller
loop-next-smaller c =
    way_less c.loop-next.rest.now c.in-Some.next.now c.split-in-Some.result.1.now c.split-in-Some-2.result.1.now
    c.in-Some.ensures c.split-in-Some.ensures.after c.split-in-Some-2.ensures.after

pub loop-next-preserved : goal.loop-next-preserved
loop-next-preserved c =
    way_longer c.args.text.now c.loop-next.path c.loop-next.rest.now c.in-Some.next.now c.split-in-Some.result.1.now c.push.new.self
    c.in_ok-name.name c.split-in-Some-2.result.1.now c.loop-next.invariant c.in-Some.ensures c.split-in-Some.ensures.after
    c.if-not-begins-2.ensures (c.in_ok-name.ensures ∙ c.trimmed-in-Some.ensures ∙ ap trimmed c.split-in-Some-2.ensures.front)
    c.in_ok-push.ensures.ok c.split-in-Some-2.ensures.after

pub returns : goal.returns
returns c = way_done c.args.text.now c.loop-next.path c.loop-next.rest.now c.loop-next.invariant c.in_default.ensures
