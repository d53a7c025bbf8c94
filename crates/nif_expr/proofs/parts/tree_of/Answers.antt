use Rattle.std.proofs.Common.{ap, arith, length}
use Rattle.nif_base.specs.Ascii.{is_blank}
use Rattle.nif_expr.specs.Kept.{frames, part_of, state_of}
use Rattle.nif_expr.proofs.PathLemmas.{length-after}
use Rattle.nif_expr.proofs.GoingLemmas.{going_begun, going_on, going_wrong, going_stuck, unblank_after, less_after, some_left, none_left, finished}
use Rattle.nif_expr.proofs.parts.tree_of.Goals as goal

pub loop-rest-init : goal.loop-rest-init
loop-rest-init c = record {
  going = going_begun c.args.text.now c.split.result.1.now (frames c.new.result.items) (ap frames c.new.ensures.items) c.split.ensures.after;
  unblank = unblank_after c.args.text.now c.split.result.1.now c.split.ensures.after;
  short = omega (arith, ap length c.split.ensures.after, length-after is_blank c.args.text.now);
}

pub returns-in-Ok-None : goal.returns-in-Ok-None
returns-in-Ok-None c =
    going_stuck c.args.text.now (state_of c.loop-rest.state) c.loop-rest.rest.now c.loop-rest.invariant.going c.loop-rest.invariant.unblank
    (some_left c.loop-rest.rest.now c.loop-rest-test.ensures) (rw c.in-Ok-None.field-0-is at c.in-Ok-None.ensures)

pub returns-in-Ok-None-step : goal.returns-in-Ok-None-step
returns-in-Ok-None-step c =
    going_wrong c.args.text.now (state_of c.loop-rest.state) c.loop-rest.rest.now c.in-Ok-Some.found.1.now (part_of c.in-Ok-Some.found.0)
    c.loop-rest.invariant.going (rw c.in-Ok-Some.field-0-is at c.in-Ok-Some.ensures) (rw c.in-Ok-None-step.field-0-is at c.in-Ok-None-step.ensures)

pub loop-rest-smaller : goal.loop-rest-smaller
loop-rest-smaller c =
    less_after c.loop-rest.rest.now c.in-Ok-Some.found.1.now c.split-in-loop-rest.result.1.now (part_of c.in-Ok-Some.found.0)
    (rw c.in-Ok-Some.field-0-is at c.in-Ok-Some.ensures) c.split-in-loop-rest.ensures.after

pub loop-rest-preserved : goal.loop-rest-preserved
loop-rest-preserved c = record {
  going = going_on c.args.text.now (state_of c.loop-rest.state) (state_of c.in-Ok-Some-step.next) c.loop-rest.rest.now c.in-Ok-Some.found.1.now
      c.split-in-loop-rest.result.1.now (part_of c.in-Ok-Some.found.0) c.loop-rest.invariant.going
      (rw c.in-Ok-Some.field-0-is at c.in-Ok-Some.ensures) (rw c.in-Ok-Some-step.field-0-is at c.in-Ok-Some-step.ensures)
      c.split-in-loop-rest.ensures.after;
  unblank = unblank_after c.in-Ok-Some.found.1.now c.split-in-loop-rest.result.1.now c.split-in-loop-rest.ensures.after;
  short =
      let less = less_after c.loop-rest.rest.now c.in-Ok-Some.found.1.now c.split-in-loop-rest.result.1.now (part_of c.in-Ok-Some.found.0)
      (rw c.in-Ok-Some.field-0-is at c.in-Ok-Some.ensures) c.split-in-loop-rest.ensures.after in
      omega (arith, less, c.loop-rest.invariant.short);
}

pub returns : goal.returns
returns c =
    finished c.args.text.now (state_of c.loop-rest.state) c.finish.result c.loop-rest.rest.now c.loop-rest.invariant.going
    (none_left c.loop-rest.rest.now c.loop-rest-test.ensures) c.finish.ensures
