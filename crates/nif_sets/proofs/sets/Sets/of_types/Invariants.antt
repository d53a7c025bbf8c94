use Rattle.std.proofs.Common.{◌≡◌, map, take}
use Rattle.nif_sets.specs.declared.sets.TypeSet.TheVariants.{One}
use Rattle.nif_sets.proofs.sets.Sets.of_types.Given as goal

abbrev pub invariant-loop-number : goal.invariant-loop-number
invariant-loop-number l = l.sets.items ≡ map One (take l.number-index l.types)
