use Rattle.nif_cells.specs.ReadLaws.{tree_known}
use Rattle.nif_cells.proofs.laws.tree_is_known.Goals as goal

pub returns : goal.returns
returns c = λ n small cells says. tree_known cells n says small
