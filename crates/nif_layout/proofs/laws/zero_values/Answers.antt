use Rattle.nif_layout.specs.ZeroLaws.{leads_nowhere, is_zero_value}
use Rattle.nif_layout.proofs.laws.zero_values.Goals as goal

pub returns : goal.returns
returns c = record { empty = leads_nowhere; value = is_zero_value }
