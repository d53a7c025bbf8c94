use Rattle.std.proofs.Common.{◌∙◌}
use Rattle.nif_schema.specs.Declaration.{formula}
use Rattle.nif_scope.proofs.KeptValues.{formula_same}
use Rattle.nif_scope.proofs.scopes.formula_value.Goals as goal

pub returns : goal.returns
returns c = λ members tells. c.formula_at.ensures ∙ formula_same c.args.at.now c.args.entries.now members tells (formula c.args.of.now)
