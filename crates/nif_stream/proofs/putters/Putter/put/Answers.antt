use Rattle.std.proofs.Common.{[], refl, arith}
use Rattle.nif_stream.specs.PutterLaws.{adds_joined}
use Rattle.nif_stream.proofs.Writes.{puts_write, fails_again}
use Rattle.nif_stream.proofs.putters.Putter.put.Goals as goal

pub returns-then-self-clause-err : goal.returns-then-self-clause-err
returns-then-self-clause-err g c = fails_again g.K.Sink.grew g.K.Sink.write_faults _ c.args.bytes.now c.if-self.true

-- the bytes are pending behind what was
pub returns-then-bytes-room-clause-ok : goal.returns-then-bytes-room-clause-ok
returns-then-bytes-room-clause-ok g c =
    puts_write g.K.Sink.grew g.met.K.Sink.grew_joined g.K.Sink.write_faults _ _ c.args.bytes.now [] (g.met.K.Sink.grew_same _) c.add.ensures refl (omega arith) c.if-self.false

pub returns-then-bytes-room-2-clause-ok : goal.returns-then-bytes-room-2-clause-ok
returns-then-bytes-room-2-clause-ok g c =
    let flushed = c.in_ok-flush.ensures.ok in
    let added = puts_write g.K.Sink.grew g.met.K.Sink.grew_joined g.K.Sink.write_faults c.flush.new.self _ c.args.bytes.now [] (g.met.K.Sink.grew_same _) c.add-then-bytes-room-2.ensures refl (omega arith) flushed.sound in
    record {
      same_reference = flushed.same_reference;
      later = flushed.later;
      sound = flushed.sound;
      adds = adds_joined g.K.Sink.grew _ _ _ [] c.args.bytes.now _ flushed.adds added.adds refl;
    }
