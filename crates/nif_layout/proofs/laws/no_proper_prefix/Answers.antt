use Rattle.nif_layout.specs.ValueLaws.{no_prefix}
use Rattle.nif_layout.proofs.laws.no_proper_prefix.Goals as goal

pub returns : goal.returns
returns c = no_prefix
