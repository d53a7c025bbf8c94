use Rattle.std.proofs.Common.{arith}
use Rattle.nif_graph.proofs.Emptied.{more_emptied, all_emptied_at}
use Rattle.nif_graph.proofs.emptying.empty_all.Goals as goal

pub loop-place-preserved : goal.loop-place-preserved
loop-place-preserved c =
    more_emptied c.args.name c.args.slots.now.slots c.args.store.now c.loop-place.store c.empty_tree.new.store c.loop-place.place c.at.result
    c.loop-place.invariant c.at.ensures c.empty_tree.ensures.tree c.empty_tree.ensures.others c.empty_tree.ensures.building c.empty_tree.ensures.spare

pub returns-clause-trees : goal.returns-clause-trees
returns-clause-trees c =
    all_emptied_at c.args.name c.args.slots.now.slots c.args.store.now c.loop-place.store c.loop-place.place c.loop-place.invariant
    (omega (arith, c.len-place-end.ensures))
