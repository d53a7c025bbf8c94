use Rattle.nif_cells.specs.SizeLaws.{open-cells}
use Rattle.nif_cells.proofs.laws.few_open.Goals as goal

pub returns : goal.returns
returns c = open-cells
