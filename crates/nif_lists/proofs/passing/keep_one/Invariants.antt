use Rattle.std.proofs.Common.{length}
use Rattle.nif_lists.specs.Lists.{kept}
use Rattle.nif_lists.proofs.PassLaws.{Gathers}
use Rattle.nif_lists.proofs.passing.keep_one.Given as goal

abbrev pub invariant-loop-step : goal.invariant-loop-step
invariant-loop-step l = Gathers (kept l.schema l.member) l.fn.walk.ahead l.fn.lists l.depth l.walk.ahead l.lists

abbrev pub decreases-loop-step : goal.decreases-loop-step
decreases-loop-step l = length l.walk.ahead
