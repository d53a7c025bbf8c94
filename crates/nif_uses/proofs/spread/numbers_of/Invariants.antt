use Rattle.std.proofs.Common.{ℕ, ◌<◌, All, Contains}
use Rattle.nif_uses.specs.Marks.{IsMarked}
use Rattle.nif_uses.proofs.spread.numbers_of.Given as goal

abbrev pub invariant-loop-number : goal.invariant-loop-number
invariant-loop-number l = record {
  marked : All (IsMarked l.marks) l.numbers.items;
  all : (k : ℕ) → k < l.number → IsMarked l.marks k → Contains l.numbers.items k;
}
