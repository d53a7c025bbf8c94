use Rattle.nif_expr.proofs.Decided.{expression_or_none}
use Rattle.nif_expr.proofs.laws.tree_or_none.Goals as goal

pub returns : goal.returns
returns c = λ text. expression_or_none text
