use Rattle.std.proofs.Common.{◌≡◌, ◌<◌, ◌∙◌, length, sym, subst, Some}
use Rattle.std.specs.Prelude.{slice_get}
use Rattle.nif_base.specs.Node.{refs}
use Rattle.nif_base.specs.File.{Block}
use Rattle.nif_stream.specs.Putting.{Fails}
use Rattle.nif_value.specs.Trees.{reference_of}
use Rattle.nif_graph.specs.Graph.{find}
use Rattle.nif_print.specs.References.{block_lines, reference_line}
use Rattle.nif_print.proofs.Lines.{item_at}
use Rattle.nif_print.proofs.Numbered.{puts_none, puts_next, fails_next}
use Rattle.nif_print.proofs.Referring.{if_some, at_some, block_is, reference_is, is_there, wanted_declared}
use Rattle.nif_print.proofs.references.put_block.Goals as goal

pub loop-k-init : goal.loop-k-init
loop-k-init g c = λ b at. puts_none g.K.Sink.grew g.K.Sink.write_faults c.args.out.now c.requires.sound

pub ref_at-requires : goal.ref_at-requires
ref_at-requires g c =
    let G = c.args.graph.now.graph in
    let name = c.name_at-name.result in
    let b = item_at G.blocks c.args.place c.requires.place in
    let found = block_is G name c.args.place b.0 c.name_at-name.ensures.block b.1 in
    let count = at_some (λ (block : Block). c.ref_count-k-end.result ≡ length (refs block.node)) (find name G.blocks) b.0.block found c.ref_count-k-end.ensures in
    is_there G (Some name) c.loop-k.k (refs b.0.block.node) (reference_is G name c.loop-k.k b.0.block found) (subst (λ n. c.loop-k.k < n) count c.loop-k-test.true)

pub put_reference-requires-clause-wanted : goal.put_reference-requires-clause-wanted
put_reference-requires-clause-wanted g c =
    wanted_declared c.args.schema.now c.args.graph.now.graph (Some c.name_at-name.result) c.loop-k.k (reference_of c.ref_at.result) c.requires.declared c.ref_at.ensures.reference

pub returns-in-Err-clause-err : goal.returns-in-Err-clause-err
returns-in-Err-clause-err g c =
    let S = c.args.schema.now in
    let G = c.args.graph.now.graph in
    let place = c.args.place in
    let name = c.name_at-name.result in
    if_some (λ b. Fails g.K.Sink.grew g.K.Sink.write_faults c.args.out.now (block_lines S G place b) c.put_reference.new.out) (slice_get G.blocks place) (λ b at.
    fails_next g.K.Sink.grew g.K.Sink.write_faults c.args.out.now c.loop-k.out c.put_reference.new.out (reference_line S G (Some place)) (refs b.block.node) c.loop-k.k (reference_of c.ref_at.result)
    (c.loop-k.invariant b at)
    (sym (reference_is G name c.loop-k.k b.block (block_is G name place b c.name_at-name.ensures.block at)) ∙ c.ref_at.ensures.reference)
    c.in-Err.ensures.err)

pub loop-k-preserved : goal.loop-k-preserved
loop-k-preserved g c = λ b at.
    let S = c.args.schema.now in
    let G = c.args.graph.now.graph in
    let place = c.args.place in
    let name = c.name_at-name.result in
    puts_next g.K.Sink.grew g.K.Sink.write_faults c.args.out.now c.loop-k.out c.put_reference.new.out (reference_line S G (Some place)) (refs b.block.node) c.loop-k.k (reference_of c.ref_at.result)
    (c.loop-k.invariant b at)
    (sym (reference_is G name c.loop-k.k b.block (block_is G name place b c.name_at-name.ensures.block at)) ∙ c.ref_at.ensures.reference)
    c.in-Ok.ensures.ok
