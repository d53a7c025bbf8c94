use Rattle.nif_edit.proofs.Itself.{replaces_itself}
use Rattle.nif_edit.proofs.laws.replaces_itself.Goals as goal

pub returns : goal.returns
returns c = replaces_itself
