use Rattle.nif_expr.proofs.Longest.{longest_sign}
use Rattle.nif_expr.proofs.laws.longest_operator.Goals as goal

pub returns : goal.returns
returns c = λ text rest p found. longest_sign text rest p found
