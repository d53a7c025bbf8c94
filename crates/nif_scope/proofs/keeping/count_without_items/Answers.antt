use Rattle.std.proofs.Common.{length, ap, ◌∙◌, arith}
use Rattle.nif_scope.proofs.Growing.{pass_step, keep_step}
use Rattle.nif_scope.proofs.keeping.count_without_items.Goals as goal
use Rattle.nif_scope.proofs.keeping.count_without_items.Goals.{then-passed-gt0, else-passed-gt0}

pub loop-place-preserved : goal.loop-place-preserved
loop-place-preserved c = elim c.if-passed-gt0.branch [
  | then-passed-gt0 w ↦
      let step = ap length (pass_step c.loop-place.passed c.if-passed-gt0.passed c.loop-place.place c.args.inner.now w.if-passed-gt0.true w.passed-is c.loop-place-test.true) in
      record { counted = omega (arith, step, w.count-is, c.loop-place.invariant.counted); few = omega (arith, w.count-is, c.loop-place.invariant.few) }
  | else-passed-gt0 w ↦
      let step = ap length (keep_step c.loop-place.passed c.if-passed-gt0.passed c.loop-place.place c.args.inner.now _ w.if-passed-gt0.false (w.passed-is ∙ w.items_behind-passed.ensures) c.loop-place-test.true) in
      record { counted = omega (arith, step, w.count-is, c.loop-place.invariant.counted); few = omega (arith, w.count-is, c.loop-place.invariant.few) }
]
