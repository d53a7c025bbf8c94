use Rattle.std.proofs.Common.{length}
use Rattle.nif_encode.specs.PutSteps.{Passes}
use Rattle.nif_encode.proofs.steps.pass_one.Given as goal

abbrev pub invariant-loop-step : goal.invariant-loop-step
invariant-loop-step l = Passes l.fn.walk.ahead l.depth l.walk.ahead

abbrev pub decreases-loop-step : goal.decreases-loop-step
decreases-loop-step l = length l.walk.ahead
