use Rattle.nif_layout.specs.ValueLaws.{one_node}
use Rattle.nif_layout.proofs.laws.same_bytes_same_node.Goals as goal

pub returns : goal.returns
returns c = one_node
