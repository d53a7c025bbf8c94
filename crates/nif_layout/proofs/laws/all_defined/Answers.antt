use Rattle.nif_layout.proofs.DefinedValues.{all_defined}
use Rattle.nif_layout.proofs.laws.all_defined.Goals as goal

pub returns : goal.returns
returns c = all_defined
