use Rattle.nif_graph.proofs.Emptied.{IsEmptying}
use Rattle.nif_graph.proofs.emptying.empty_tree.Given as goal

abbrev pub invariant-loop-k : goal.invariant-loop-k
invariant-loop-k l = IsEmptying l.name l.tree.run.key l.initial.store l.store l.k
