use Rattle.std.proofs.Common.{◌↔◌, ◌++◌, take, Contains}
use Rattle.nif_sets.specs.declared.sets.TypeSet.{TypeSet}
use Rattle.nif_sets.proofs.distinct.add_all.Given as goal

abbrev pub invariant-loop-set : goal.invariant-loop-set
invariant-loop-set l = (set : TypeSet) → Contains l.to.keys set ↔ Contains (l.initial.to.keys ++ take l.set-index l.sets) set
