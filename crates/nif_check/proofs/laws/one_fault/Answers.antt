use Rattle.nif_check.proofs.FaultLemmas.{one_fault}
use Rattle.nif_check.proofs.laws.one_fault.Goals as goal

pub returns : goal.returns
returns c = one_fault
