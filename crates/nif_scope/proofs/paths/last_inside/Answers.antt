use Rattle.std.proofs.Common.{sym}
use Rattle.nif_scope.proofs.OpenLine.{open_ends}
use Rattle.nif_scope.proofs.paths.last_inside.Goals as goal

pub last_told-requires-clause-ends : goal.last_told-requires-clause-ends
last_told-requires-clause-ends c = open_ends c.args.schema.now c.in_ok-number.number (c.requires.kind c.in_ok-number.number (sym c.in_ok-number.ensures.value))
