use Rattle.nif_edit.proofs.Refusing.{one_fault}
use Rattle.nif_edit.proofs.laws.one_fault.Goals as goal

pub returns : goal.returns
returns c = one_fault
