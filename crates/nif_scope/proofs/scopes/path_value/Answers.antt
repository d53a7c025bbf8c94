use Rattle.std.proofs.Common.{◌∙◌}
use Rattle.nif_scope.proofs.KeptValues.{path_same}
use Rattle.nif_scope.proofs.scopes.path_value.Goals as goal

pub returns : goal.returns
returns c = λ members tells. c.path_told.ensures ∙ path_same c.args.at.now c.args.entries.now members tells c.args.path.now
