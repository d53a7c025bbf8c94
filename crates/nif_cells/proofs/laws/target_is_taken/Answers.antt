use Rattle.nif_cells.specs.TargetLaws.{takes_target}
use Rattle.nif_cells.proofs.laws.target_is_taken.Goals as goal

pub returns : goal.returns
returns c = takes_target
