use Rattle.nif_check.proofs.FaultLemmas.{no_fault}
use Rattle.nif_check.proofs.laws.no_fault.Goals as goal

pub returns : goal.returns
returns c = no_fault
