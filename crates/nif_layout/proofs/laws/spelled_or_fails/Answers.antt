use Rattle.nif_layout.specs.ValueLaws.{type_or_fails}
use Rattle.nif_layout.proofs.laws.spelled_or_fails.Goals as goal

pub returns : goal.returns
returns c = type_or_fails
