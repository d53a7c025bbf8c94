use Rattle.nif_graph.proofs.Emptied.{IsEmptyingAll}
use Rattle.nif_graph.proofs.emptying.empty_all.Given as goal

abbrev pub invariant-loop-place : goal.invariant-loop-place
invariant-loop-place l = IsEmptyingAll l.name l.slots.slots l.initial.store l.store l.place
