use Rattle.nif_edit.proofs.Declares.{values_declare}
use Rattle.nif_edit.proofs.laws.types_declared.Goals as goal

pub returns : goal.returns
returns c = values_declare
