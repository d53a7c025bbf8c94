use Rattle.nif_edit.proofs.Surviving.{survives}
use Rattle.nif_edit.proofs.laws.references_survive.Goals as goal

pub returns : goal.returns
returns c = survives
