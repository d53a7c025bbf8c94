use Rattle.nif_layout.specs.ValueLaws.{one_of_form}
use Rattle.nif_layout.proofs.laws.one_form.Goals as goal

pub returns : goal.returns
returns c = one_of_form
