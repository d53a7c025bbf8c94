use Rattle.std.proofs.Common.{◌+◌, [], drop, sym, ap, subst, ◌∙◌, arith}
use Rattle.nif_scope.specs.Lookup.{follow_told, step_told}
use Rattle.nif_scope.specs.Kept.{told_of, IsOpenTold}
use Rattle.nif_scope.proofs.Places.{drop_next, drop_end}
use Rattle.nif_scope.proofs.OpenLine.{step_open}
use Rattle.nif_scope.proofs.paths.follow.Goals as goal

pub step-at-requires : goal.step-at-requires
step-at-requires c = c.loop-place.invariant.known

pub loop-place-preserved : goal.loop-place-preserved
loop-place-preserved c =
    let S = c.args.schema.now in
    let name = c.bytes.ensures ∙ c.get.ensures in
    let stepped = c.step-at.ensures ∙ ap (λ name. step_told S name (told_of c.loop-place.at)) name in
    record {
      leads =
          ap (λ x. follow_told S x (drop (c.loop-place.place + 1) c.args.path.now)) stepped
          ∙ ap (λ names. follow_told S (told_of c.loop-place.at) names) (sym (drop_next c.args.path.now c.loop-place.place [] (omega (arith, c.loop-place-test.true, c.len-place-end.ensures.value))))
          ∙ c.loop-place.invariant.leads;
      known = subst (λ x. IsOpenTold S x) (sym c.step-at.ensures) (step_open S c.bytes.result.now (told_of c.loop-place.at) c.loop-place.invariant.known);
    }

pub returns : goal.returns
returns c =
    c.value_told.ensures
    ∙ ap (λ names. follow_told c.args.schema.now (told_of c.loop-place.at) names) (sym (drop_end c.args.path.now c.loop-place.place (omega (arith, c.loop-place-test.false, c.len-place-end.ensures.value))))
    ∙ c.loop-place.invariant.leads
