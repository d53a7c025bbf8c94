use Rattle.nif_scope.proofs.Growing.{for_more}
use Rattle.nif_scope.proofs.laws.for_more.Goals as goal

pub returns : goal.returns
returns c = for_more
