use Rattle.nif_cells.specs.WalkLaws.{met-tree}
use Rattle.nif_cells.proofs.laws.walk_is_met.Goals as goal

pub returns : goal.returns
returns c = met-tree
