use Rattle.nif_cells.specs.PlaceLaws.{indexed}
use Rattle.nif_cells.proofs.laws.references_are_indexed.Goals as goal

pub returns : goal.returns
returns c = indexed
