use Rattle.nif_layout.specs.ValueLaws.{line_or_fails}
use Rattle.nif_layout.proofs.laws.line_spelled_or_fails.Goals as goal

pub returns : goal.returns
returns g c = line_or_fails
