use Rattle.nif_edit.proofs.Typing.{stays_typed, keeps_typed}
use Rattle.nif_edit.proofs.laws.types_stay.Goals as goal

pub returns : goal.returns
returns c = record { one = stays_typed; all = keeps_typed }
