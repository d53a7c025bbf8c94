use Rattle.nif_scope.proofs.Growing.{earlier_more}
use Rattle.nif_scope.proofs.laws.earlier_more.Goals as goal

pub returns : goal.returns
returns c = earlier_more
