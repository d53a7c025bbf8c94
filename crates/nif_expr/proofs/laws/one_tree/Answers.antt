use Rattle.nif_expr.proofs.OneTree.{one_tree}
use Rattle.nif_expr.proofs.laws.one_tree.Goals as goal

pub returns : goal.returns
returns c = λ text a b one other. one_tree text a b one other
