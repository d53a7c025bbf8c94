use Rattle.std.proofs.Common.{◌-◌}
use Rattle.nif_paths.proofs.runs.+run_set.Given as goal

abbrev pub decreases-run_set : goal.decreases-run_set
decreases-run_set l = l.to - l.from
