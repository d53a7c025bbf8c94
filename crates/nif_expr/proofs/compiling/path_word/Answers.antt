use Rattle.std.proofs.Common.{refl, arith}
use Rattle.nif_expr.proofs.CodeLemmas.{computes_number, computes_slot}
use Rattle.nif_expr.proofs.PlaceLemmas.{found_here, found_before, found_of_all, found_nowhere}
use Rattle.nif_expr.proofs.compiling.path_word.Goals as goal

pub loop-number-init : goal.loop-number-init
loop-number-init c = record {
  place = omega arith;
  same = found_of_all c.args.paths.now c.args.path.now _ refl;
}

pub returns-then-same : goal.returns-then-same
returns-then-same c =
    computes_slot _ _ (λ slots arg.
    found_here c.args.paths.now c.args.path.now _ c.loop-number.number c.loop-number-test.true c.loop-number.invariant.place
    c.index-paths-number.is (c.if-same.ensures.0 refl) slots (c.loop-number.invariant.same slots))

pub loop-number-preserved : goal.loop-number-preserved
loop-number-preserved c = record {
  place = omega (arith, c.loop-number.invariant.place);
  same = λ slots.
      found_before c.args.paths.now c.args.path.now _ c.loop-number.number c.same.result c.loop-number-test.true c.loop-number.invariant.place
      c.index-paths-number.is c.same.ensures.1 c.if-same.false slots (c.loop-number.invariant.same slots);
}

pub returns : goal.returns
returns c =
    computes_number _ _ (λ slots arg.
    found_nowhere c.args.paths.now c.args.path.now c.loop-number.number (λ lt. absurd (omega (arith, c.loop-number-test.false, lt))) slots
    (c.loop-number.invariant.same slots))
