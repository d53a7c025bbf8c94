use Rattle.std.proofs.Common.{ℕ, ◌↔◌, ◌++◌, take, Contains}
use Rattle.nif_sets.proofs.meanings.add_types.Given as goal

abbrev pub invariant-loop-number : goal.invariant-loop-number
invariant-loop-number l = (number : ℕ) → Contains l.to.keys number ↔ Contains (l.initial.to.keys ++ take l.number-index l.types) number
