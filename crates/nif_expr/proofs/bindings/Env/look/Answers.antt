use Rattle.std.proofs.Common.{sym, ◌∙◌, refl}
use Rattle.nif_expr.proofs.Looking.{first_value-hit, first_value-miss, first_value-none}
use Rattle.nif_expr.proofs.bindings.Env.look.Goals as goal

pub returns-then-same : goal.returns-then-same
returns-then-same c =
    sym (first_value-hit _ _ c.in-Some.field-0.now c.args.path.now c.in-Some.ensures.steps (c.if-same.ensures.0 refl)) ∙ c.loop-bound.invariant

pub loop-bound-preserved : goal.loop-bound-preserved
loop-bound-preserved c =
    sym (first_value-miss _ _ c.in-Some.field-0.now c.args.path.now _ c.in-Some.ensures.steps c.same.ensures.1 c.if-same.false)
    ∙ c.loop-bound.invariant

pub returns : goal.returns
returns c = first_value-none _ c.args.path.now c.in-None.ensures.steps.0 ∙ c.loop-bound.invariant
