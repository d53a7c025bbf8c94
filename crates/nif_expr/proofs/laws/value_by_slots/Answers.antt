use Rattle.nif_expr.proofs.SlotLemmas.{value_by_slots}
use Rattle.nif_expr.proofs.laws.value_by_slots.Goals as goal

pub returns : goal.returns
returns c = λ tree of paths slots arg told have. value_by_slots tree of paths slots arg told have
