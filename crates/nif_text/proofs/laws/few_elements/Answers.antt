use Rattle.nif_text.proofs.Lengths.{written_counted}
use Rattle.nif_text.proofs.laws.few_elements.Goals as goal

pub returns : goal.returns
returns c = written_counted
