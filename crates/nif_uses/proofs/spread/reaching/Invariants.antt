use Rattle.std.proofs.Common.{◌+◌, length}
use Rattle.nif_uses.specs.Marks.{unmarked}
use Rattle.nif_uses.specs.Users.{IsSpreading}
use Rattle.nif_uses.proofs.spread.reaching.Given as goal

abbrev pub invariant-loop-used : goal.invariant-loop-used
invariant-loop-used l = IsSpreading l.schema l.marked l.marks.items l.waiting.items

abbrev pub decreases-loop-used : goal.decreases-loop-used
decreases-loop-used l = unmarked l.marks.items + length l.waiting.items
