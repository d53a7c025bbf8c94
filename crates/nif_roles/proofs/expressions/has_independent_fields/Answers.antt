use Rattle.std.proofs.Common.{true, false, sym, ◌∙◌, arith}
use Rattle.nif_roles.proofs.FieldLemmas.{independent-at, independent_past}
use Rattle.nif_roles.proofs.expressions.has_independent_fields.Goals as goal

pub returns-then-not-passes : goal.returns-then-not-passes
returns-then-not-passes c =
    sym (c.loop-place.invariant ∙ independent-at c.args.fields.now c.loop-place.place c.get.result.now false c.get.ensures (sym c.passes.ensures ∙ c.if-not-passes.true))

pub loop-place-preserved : goal.loop-place-preserved
loop-place-preserved c =
    c.loop-place.invariant ∙ independent-at c.args.fields.now c.loop-place.place c.get.result.now true c.get.ensures (sym c.passes.ensures ∙ c.if-not-passes.false)

pub returns : goal.returns
returns c = sym (c.loop-place.invariant ∙ independent_past c.args.fields.now c.loop-place.place (omega (arith, c.len-place-end.ensures)))
