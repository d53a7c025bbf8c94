use Rattle.std.proofs.Common.{arith}
use Rattle.std.proofs.lemmas.Bool.Decides.{nat_tests}
use Rattle.nif_paths.specs.Marks.{stop_reason}
use Rattle.nif_paths.proofs.runs.stop_reason.Goals as goal

pub returns-then-stop-eq0 : goal.returns-then-stop-eq0
unfolding stop_reason
returns-then-stop-eq0 c = grind (arith, nat_tests)

pub returns-then-stop-eq0-2 : goal.returns-then-stop-eq0-2
unfolding stop_reason
returns-then-stop-eq0-2 c = grind (arith, nat_tests)

pub returns : goal.returns
unfolding stop_reason
returns c = grind (arith, nat_tests)
