use Rattle.nif_cells.specs.SizeLaws.{tree-bound}
use Rattle.nif_cells.proofs.laws.few_cells.Goals as goal

pub returns : goal.returns
returns c = tree-bound
