use Rattle.std.proofs.Common.{◌∙◌, false, arith, refl, length-set}
use Rattle.nif_graph.proofs.Marking.{clear_more, all_clear}
use Rattle.nif_graph.proofs.marks.Marks.clear.Goals as goal

pub loop-place-init : goal.loop-place-init
loop-place-init c = record {
  cleared = λ k l. absurd (omega arith);
  len = refl;
  room = refl;
  queue = refl;
}

pub loop-place-preserved : goal.loop-place-preserved
loop-place-preserved c = record {
  cleared = clear_more c.loop-place.self.marks.items c.loop-place.place
      (omega (arith, c.loop-place.invariant.len, c.args.self.now.marks.ok.0)) c.loop-place.invariant.cleared;
  len = length-set c.loop-place.self.marks.items c.loop-place.place false ∙ c.loop-place.invariant.len;
  room = c.loop-place.invariant.room;
  queue = c.loop-place.invariant.queue;
}

pub returns-clause-clear : goal.returns-clause-clear
returns-clause-clear c =
    all_clear c.loop-place.self.marks.items c.loop-place.place
    (omega (arith, c.loop-place.invariant.len, c.args.self.now.marks.ok.0)) c.loop-place.invariant.cleared
