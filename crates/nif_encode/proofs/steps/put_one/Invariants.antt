use Rattle.std.proofs.Common.{length}
use Rattle.nif_encode.proofs.PutLaws.{Spells}
use Rattle.nif_encode.proofs.steps.put_one.Given as goal

abbrev pub invariant-loop-step : goal.invariant-loop-step
invariant-loop-step g l = Spells g.K.Sink.grew g.K.Sink.write_faults l.fn.out l.to l.fn.walk.ahead l.depth l.walk.ahead l.out

abbrev pub decreases-loop-step : goal.decreases-loop-step
decreases-loop-step g l = length l.walk.ahead
