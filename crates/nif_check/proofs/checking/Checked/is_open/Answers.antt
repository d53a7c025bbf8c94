use Rattle.nif_check.proofs.ReasonLemmas.{open_by_test}
use Rattle.nif_check.proofs.checking.Checked.is_open.Goals as goal

pub returns : goal.returns
returns c = open_by_test c.args.self.now c.args.number c.reason.result c.is_none.result c.is_none.ensures c.reason.ensures
