use Rattle.std.proofs.Common.{◌≡◌, ℕ, Some, Contains, length}
use Rattle.nif_reasons.specs.Ways.{IsAt}
use Rattle.nif_reasons.proofs.ways.back_to.Given as goal

abbrev pub invariant-up : goal.invariant-up
invariant-up l =
    IsAt l.schema l.way.stack.items l.way.line × ((number : ℕ) → l.parent ≡ Some number → Contains l.way.stack.items number)

abbrev pub decreases-up : goal.decreases-up
decreases-up l = length l.way.stack.items
