use Rattle.nif_layout.specs.ValueLaws.{one_of_line}
use Rattle.nif_layout.proofs.laws.one_line.Goals as goal

pub returns : goal.returns
returns g c = one_of_line
