use Rattle.std.proofs.Common.{◌∙◌}
use Rattle.nif_schema.specs.Declaration.{field}
use Rattle.nif_scope.proofs.KeptRules.{present_same}
use Rattle.nif_scope.proofs.scopes.is_present.Goals as goal

pub returns : goal.returns
returns c = λ members tells. c.present.ensures ∙ present_same c.args.at.now c.args.entries.now members tells (field c.args.of.now)
