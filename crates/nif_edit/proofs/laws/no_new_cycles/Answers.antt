use Rattle.nif_edit.proofs.Cycles.{keeps_acyclic}
use Rattle.nif_edit.proofs.laws.no_new_cycles.Goals as goal

pub returns : goal.returns
returns c = keeps_acyclic
