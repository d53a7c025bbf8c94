use Rattle.nif_check.proofs.ValueLemmas.{readable}
use Rattle.nif_check.proofs.laws.open_types_have_values.Goals as goal

pub returns : goal.returns
returns c = readable
