use Rattle.std.proofs.Common.{[], take, refl, ◌∙◌}
use Rattle.nif_encode.specs.PutSteps.{IsPiece}
use Rattle.nif_encode.proofs.PutLaws.{puts_none, piece_of, copies_more, copies_failed}
use Rattle.nif_encode.proofs.steps.put_bytes.Goals as goal

pub loop-piece-init : goal.loop-piece-init
loop-piece-init g c = record {
  ahead = refl;
  size = refl;
  copies = record { done = []; puts = puts_none g.K.Sink.grew g.K.Sink.write_faults c.args.out.now c.requires.sound; whole = refl; some = c.requires.bytes };
}

pub loop-piece-preserved : goal.loop-piece-preserved
loop-piece-preserved g c =
    let grew = g.K.Sink.grew in
    let faults = g.K.Sink.write_faults in
    let left = c.loop-piece.walk.bytes in
    let count = c.bytes-count.result in
    let piece : IsPiece left count (take count c.bytes-count.new.buf) c.bytes-count.new.self.bytes =
    piece_of left 256 count c.loop-piece.piece c.bytes-count.new.buf c.bytes-count.new.self.bytes c.loop-piece.invariant.copies.some c.loop-piece.invariant.size
    c.bytes-count.ensures.count c.bytes-count.ensures.buf c.bytes-count.ensures.bytes in
    record {
      ahead = c.bytes-count.ensures.ahead ∙ c.loop-piece.invariant.ahead;
      size = c.bytes-count.auto.buf ∙ c.loop-piece.invariant.size;
      copies = copies_more grew faults c.args.out.now c.loop-piece.out c.put.new.self c.args.walk.now.bytes left c.bytes-count.new.self.bytes count (take count c.bytes-count.new.buf)
          c.loop-piece.invariant.copies piece c.in-Ok.ensures.ok;
    }

pub returns-in-Err-clause-err : goal.returns-in-Err-clause-err
returns-in-Err-clause-err g c =
    let grew = g.K.Sink.grew in
    let faults = g.K.Sink.write_faults in
    let left = c.loop-piece.walk.bytes in
    let count = c.bytes-count.result in
    let piece : IsPiece left count (take count c.bytes-count.new.buf) c.bytes-count.new.self.bytes =
    piece_of left 256 count c.loop-piece.piece c.bytes-count.new.buf c.bytes-count.new.self.bytes c.loop-piece.invariant.copies.some c.loop-piece.invariant.size
    c.bytes-count.ensures.count c.bytes-count.ensures.buf c.bytes-count.ensures.bytes in
    copies_failed grew faults c.args.out.now c.loop-piece.out c.put.new.self c.args.walk.now.bytes left c.bytes-count.new.self.bytes count (take count c.bytes-count.new.buf)
    c.loop-piece.invariant.copies piece c.in-Err.ensures.err
