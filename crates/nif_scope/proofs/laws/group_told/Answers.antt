use Rattle.nif_scope.proofs.Growing.{group_told}
use Rattle.nif_scope.proofs.laws.group_told.Goals as goal

pub returns : goal.returns
returns c = group_told
