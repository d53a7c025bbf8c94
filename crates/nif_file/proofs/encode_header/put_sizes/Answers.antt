use Rattle.std.proofs.Common.{◌≡◌, IfSome, subst, arith}
use Rattle.nif_base.specs.Graph.{Named}
use Rattle.nif_base.specs.Node.{number, is_little, size}
use Rattle.nif_cells.specs.Building.{bytes_of}
use Rattle.nif_region.specs.Contents as region
use Rattle.nif_stream.specs.Putting.{Puts, Fails}
use Rattle.nif_value.specs.Trees.{Trees}
use Rattle.nif_file.proofs.HeaderPuts.{there_is, entry_text, len_is}
use Rattle.nif_file.proofs.PartsPuts.{first_none, first_next, first_failed, first_all}
use Rattle.nif_file.proofs.encode_header.put_sizes.Goals as goal

pub loop-place-init : goal.loop-place-init
loop-place-init g c =
    first_none g.K.Sink.grew g.K.Sink.write_faults c.args.out.now (λ (b : Named). number (is_little c.args.order) 4 (size b.block.node)) c.args.graph.now.graph.blocks c.requires

pub returns-in-Err-clause-err : goal.returns-in-Err-clause-err
returns-in-Err-clause-err g c =
    let blocks = c.args.graph.now.graph.blocks in
    let b = there_is blocks c.loop-place.place (omega (arith, c.loop-place-test.true, c.count-place-end.ensures)) in
    first_failed g.K.Sink.grew g.K.Sink.write_faults c.args.out.now c.loop-place.out c.put_number.new.out (λ (b : Named). number (is_little c.args.order) 4 (size b.block.node)) blocks c.loop-place.place b.0 c.loop-place.invariant b.1
    (subst (λ l. Fails g.K.Sink.grew g.K.Sink.write_faults c.loop-place.out l c.put_number.new.out)
    (entry_text c.is_little-little.result c.args.order 4 c.bytes_of-len.result _ c.is_little-little.ensures
    (len_is blocks c.loop-place.place c.name_at.result (region.find c.args.graph.now.trees.trees c.tree_of-tree.result.run.key) b.0 c.bytes_of-len.result b.1
    c.name_at.ensures.block c.tree_of-tree.ensures
    (subst (λ (t : Trees). IfSome (region.find t.trees c.tree_of-tree.result.run.key) (λ at. c.bytes_of-len.result ≡ bytes_of at)) c.store.ensures c.bytes_of-len.ensures))) c.in-Err.ensures.err)

pub loop-place-preserved : goal.loop-place-preserved
loop-place-preserved g c =
    let blocks = c.args.graph.now.graph.blocks in
    let b = there_is blocks c.loop-place.place (omega (arith, c.loop-place-test.true, c.count-place-end.ensures)) in
    first_next g.K.Sink.grew g.K.Sink.write_faults c.args.out.now c.loop-place.out c.put_number.new.out (λ (b : Named). number (is_little c.args.order) 4 (size b.block.node)) blocks c.loop-place.place b.0 c.loop-place.invariant b.1
    (subst (λ l. Puts g.K.Sink.grew g.K.Sink.write_faults c.loop-place.out l c.put_number.new.out)
    (entry_text c.is_little-little.result c.args.order 4 c.bytes_of-len.result _ c.is_little-little.ensures
    (len_is blocks c.loop-place.place c.name_at.result (region.find c.args.graph.now.trees.trees c.tree_of-tree.result.run.key) b.0 c.bytes_of-len.result b.1
    c.name_at.ensures.block c.tree_of-tree.ensures
    (subst (λ (t : Trees). IfSome (region.find t.trees c.tree_of-tree.result.run.key) (λ at. c.bytes_of-len.result ≡ bytes_of at)) c.store.ensures c.bytes_of-len.ensures))) c.in-Ok.ensures.ok)

pub returns-clause-ok : goal.returns-clause-ok
returns-clause-ok g c =
    first_all g.K.Sink.grew g.K.Sink.write_faults c.args.out.now c.loop-place.out (λ (b : Named). number (is_little c.args.order) 4 (size b.block.node)) c.args.graph.now.graph.blocks c.loop-place.place c.loop-place.invariant
    (omega (arith, c.loop-place-test.false, c.count-place-end.ensures))
