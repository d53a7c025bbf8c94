use Rattle.nif_scope.proofs.Growing.{single_told}
use Rattle.nif_scope.proofs.laws.single_told.Goals as goal

pub returns : goal.returns
returns c = single_told
