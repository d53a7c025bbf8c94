use Rattle.nif_layout.specs.ValueLaws.{form_or_fails}
use Rattle.nif_layout.proofs.laws.form_spelled_or_fails.Goals as goal

pub returns : goal.returns
returns c = form_or_fails
