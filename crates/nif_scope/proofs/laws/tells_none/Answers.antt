use Rattle.nif_scope.proofs.Growing.{tells_none}
use Rattle.nif_scope.proofs.laws.tells_none.Goals as goal

pub returns : goal.returns
returns c = tells_none
