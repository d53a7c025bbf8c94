use Rattle.std.proofs.Common.{◌∙◌}
use Rattle.nif_schema.specs.Declaration.{field}
use Rattle.nif_scope.proofs.KeptWidths.{width_same}
use Rattle.nif_scope.proofs.scopes.width_at.Goals as goal

pub returns : goal.returns
returns c = λ members tells. c.row_at.ensures ∙ width_same c.args.at.now c.args.entries.now members tells (field c.args.of.now) c.requires.field c.args.row
