use Rattle.nif_schema.specs.Basic.{listed_leaf}
use Rattle.nif_schema.proofs.leaves.listed_leaf.Goals as goal

-- the table of the program is the table of the basics
pub returns : goal.returns
unfolding listed_leaf
returns c = c.find_leaf.ensures
