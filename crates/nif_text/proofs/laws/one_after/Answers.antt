use Rattle.nif_text.proofs.Documents.{after_single}
use Rattle.nif_text.proofs.laws.one_after.Goals as goal

pub returns : goal.returns
returns c = after_single
