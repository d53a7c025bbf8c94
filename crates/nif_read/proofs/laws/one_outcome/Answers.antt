use Rattle.nif_read.proofs.Outcomes.{schema_one, fault_one, not_both}
use Rattle.nif_read.proofs.Existence.{some_outcome}
use Rattle.nif_read.proofs.laws.one_outcome.Goals as goal

pub returns : goal.returns
returns c = record {
  schema = λ root a b h k. schema_one c.one_tree.ensures root a b h k;
  fault = λ root a b h k. fault_one root a b h k;
  not_both = λ root schema fault h k. not_both root schema fault h k;
  some = λ root. some_outcome c.tree_or_none.ensures root;
}
