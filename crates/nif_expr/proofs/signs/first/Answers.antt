use Rattle.nif_expr.specs.Parts.{signs}
use Rattle.nif_expr.proofs.signs.first.Goals as goal

-- the table of the program is the table of the grammar
pub returns : goal.returns
unfolding signs
returns c = c.find_sign.ensures
