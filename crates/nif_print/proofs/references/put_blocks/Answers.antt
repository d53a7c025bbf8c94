use Rattle.std.proofs.Common.{◌<◌, length, subst}
use Rattle.nif_stream.specs.Putting.{Puts, Fails}
use Rattle.nif_print.specs.References.{block_lines}
use Rattle.nif_print.proofs.Lines.{item_at}
use Rattle.nif_print.proofs.Numbered.{puts_none, puts_next, fails_next}
use Rattle.nif_print.proofs.Referring.{at_some}
use Rattle.nif_print.proofs.references.put_blocks.Goals as goal

pub loop-place-init : goal.loop-place-init
loop-place-init g c = puts_none g.K.Sink.grew g.K.Sink.write_faults c.args.out.now c.requires.sound

pub returns-in-Err-clause-err : goal.returns-in-Err-clause-err
returns-in-Err-clause-err g c =
    let S = c.args.schema.now in
    let G = c.args.graph.now.graph in
    let place = c.loop-place.place in
    let within : place < length G.blocks = subst (λ n. place < n) c.count-place-end.ensures c.loop-place-test.true in
    let b = item_at G.blocks place within in
    fails_next g.K.Sink.grew g.K.Sink.write_faults c.args.out.now c.loop-place.out c.put_block.new.out (block_lines S G) G.blocks place b.0
    c.loop-place.invariant b.1 (at_some (λ b. Fails g.K.Sink.grew g.K.Sink.write_faults c.loop-place.out (block_lines S G place b) c.put_block.new.out) _ b.0 b.1 c.in-Err.ensures.err)

pub loop-place-preserved : goal.loop-place-preserved
loop-place-preserved g c =
    let S = c.args.schema.now in
    let G = c.args.graph.now.graph in
    let place = c.loop-place.place in
    let within : place < length G.blocks = subst (λ n. place < n) c.count-place-end.ensures c.loop-place-test.true in
    let b = item_at G.blocks place within in
    puts_next g.K.Sink.grew g.K.Sink.write_faults c.args.out.now c.loop-place.out c.put_block.new.out (block_lines S G) G.blocks place b.0
    c.loop-place.invariant b.1 (at_some (λ b. Puts g.K.Sink.grew g.K.Sink.write_faults c.loop-place.out (block_lines S G place b) c.put_block.new.out) _ b.0 b.1 c.in-Ok.ensures.ok)
