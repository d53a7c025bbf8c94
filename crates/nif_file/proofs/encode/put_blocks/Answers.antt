use Rattle.std.proofs.Common.{arith}
use Rattle.nif_file.specs.PartsText.{block_part}
use Rattle.nif_file.proofs.HeaderPuts.{there_is}
use Rattle.nif_file.proofs.PartsPuts.{first_none, first_next, first_failed, first_all}
use Rattle.nif_file.proofs.encode.put_blocks.Goals as goal

pub loop-place-init : goal.loop-place-init
loop-place-init g c =
    first_none g.K.Sink.grew g.K.Sink.write_faults c.args.out.now (block_part c.args.schema.now c.args.graph.now.graph) c.args.graph.now.graph.blocks c.requires.sound

pub returns-in-Err-clause-err : goal.returns-in-Err-clause-err
returns-in-Err-clause-err g c =
    let blocks = c.args.graph.now.graph.blocks in
    let b = there_is blocks c.loop-place.place (omega (arith, c.loop-place-test.true, c.count-place-end.ensures)) in
    first_failed g.K.Sink.grew g.K.Sink.write_faults c.args.out.now c.loop-place.out c.put_block.new.out (block_part c.args.schema.now c.args.graph.now.graph) blocks c.loop-place.place
    b.0 c.loop-place.invariant b.1 (c.in-Err.ensures.err b.0 b.1)

pub loop-place-preserved : goal.loop-place-preserved
loop-place-preserved g c =
    let blocks = c.args.graph.now.graph.blocks in
    let b = there_is blocks c.loop-place.place (omega (arith, c.loop-place-test.true, c.count-place-end.ensures)) in
    first_next g.K.Sink.grew g.K.Sink.write_faults c.args.out.now c.loop-place.out c.put_block.new.out (block_part c.args.schema.now c.args.graph.now.graph) blocks c.loop-place.place
    b.0 c.loop-place.invariant b.1 (c.in-Ok.ensures.ok b.0 b.1)

pub returns-clause-ok : goal.returns-clause-ok
returns-clause-ok g c =
    first_all g.K.Sink.grew g.K.Sink.write_faults c.args.out.now c.loop-place.out (block_part c.args.schema.now c.args.graph.now.graph) c.args.graph.now.graph.blocks c.loop-place.place
    c.loop-place.invariant (omega (arith, c.loop-place-test.false, c.count-place-end.ensures))
