use Rattle.nif_cells.specs.OpenLaws.{read-open}
use Rattle.nif_cells.proofs.laws.open_is_known.Goals as goal

pub returns : goal.returns
returns c = read-open
