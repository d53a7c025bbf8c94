use Rattle.nif_check.proofs.ReasonLemmas.{one_reason}
use Rattle.nif_check.proofs.laws.one_reason.Goals as goal

pub returns : goal.returns
returns c = one_reason
