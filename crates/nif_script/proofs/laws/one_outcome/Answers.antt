use Rattle.nif_script.proofs.Lines.{not_both, some}
use Rattle.nif_script.proofs.laws.one_outcome.Goals as goal

pub returns-clause-not_both : goal.returns-clause-not_both
returns-clause-not_both c = not_both

pub returns-clause-some : goal.returns-clause-some
returns-clause-some c = some
