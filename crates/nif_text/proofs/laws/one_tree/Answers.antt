use Rattle.nif_text.proofs.Documents.{written_single}
use Rattle.nif_text.proofs.laws.one_tree.Goals as goal

pub returns : goal.returns
returns c = written_single
