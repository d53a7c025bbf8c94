use Rattle.std.proofs.Common.{◌-◌, ◌++◌, take, length, length-take, length-append, arith, take_all}
use Rattle.std.proofs.lemmas.Result.{err_from_is_err_and}
use borrow.Rule.Slice.PartMut.{post_of}
use Rattle.nif_stream.proofs.Parts.{filled_more, filled_fits}
use Rattle.nif_stream.proofs.Gives.{misses_again, reads_none, reads_joined, misses_byte, takes_passed}
use Rattle.nif_stream.proofs.takers.Taker.take.Goals as goal

pub returns-in-Some-clause-err : goal.returns-in-Some-clause-err
returns-in-Some-clause-err g c = misses_again g.S.Source.left g.S.Source.still g.S.Source.read_faults c.args.self.now _ _ c.in-Some.fault c.in-Some.is

pub loop-filled-init : goal.loop-filled-init
loop-filled-init g c = record {
  within = omega arith;
  room = omega (arith, c.args.self.now.place.within);
  reads = reads_none g.S.Source.left g.S.Source.still g.S.Source.read_faults c.args.self.now c.in_default.is;
}

pub returns-in_err-count-clause-err : goal.returns-in_err-count-clause-err
returns-in_err-count-clause-err g c =
    let p = err_from_is_err_and c.from_residual.result c.from_residual.ensures.1 in
    let filled = c.loop-filled.filled in
    let buf = c.loop-filled.buf in
    let part = c.give.new.part in
    let behind = post_of filled (length buf - filled) buf in
    rw (p.1, p.2)
    (misses_byte g.S.Source.left g.S.Source.still g.S.Source.read_faults c.args.self.now c.loop-filled.self c.give.new.self (take filled buf) filled _ _ c.loop-filled.invariant.reads
    (omega (arith, length-take filled buf)) (omega (arith, length-append (take filled buf) (part ++ behind), length-append part behind, length-take filled buf)) c.loop-filled.invariant.room c.in_err-count.ensures.err)

pub loop-filled-preserved : goal.loop-filled-preserved
loop-filled-preserved g c = record {
  within = filled_fits c.loop-filled.filled c.in_ok-count.count _ c.loop-filled.buf c.give.new.part c.loop-filled.invariant.within c.in_ok-count.ensures.bound;
  room = omega (arith, c.in_ok-count.ensures.room, c.in_ok-count.ensures.ok.place);
  reads = reads_joined g.S.Source.left g.S.Source.still g.S.Source.read_faults c.args.self.now c.loop-filled.self c.give.new.self (take c.loop-filled.filled c.loop-filled.buf) (take c.in_ok-count.count c.give.new.part) _
      c.loop-filled.invariant.reads c.in_ok-count.ensures.ok (filled_more c.loop-filled.filled c.in_ok-count.count _ c.loop-filled.buf c.give.new.part c.loop-filled.invariant.within c.in_ok-count.ensures.bound);
}

pub returns-clause-ok : goal.returns-clause-ok
returns-clause-ok g c =
    takes_passed g.S.Source.left g.S.Source.still g.S.Source.read_faults c.args.self.now c.loop-filled.self c.pass.new.self (take c.loop-filled.filled c.loop-filled.buf) c.loop-filled.buf c.loop-filled.filled c.loop-filled.invariant.reads
    (take_all c.loop-filled.filled c.loop-filled.buf (omega arith)) c.pass.ensures.place (omega arith) c.pass.ensures.source c.pass.ensures.held c.pass.ensures.fault
