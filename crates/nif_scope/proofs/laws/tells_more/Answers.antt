use Rattle.nif_scope.proofs.Growing.{tells_more}
use Rattle.nif_scope.proofs.laws.tells_more.Goals as goal

pub returns : goal.returns
returns c = tells_more
