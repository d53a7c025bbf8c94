use Rattle.std.proofs.Common.{sym}
use Rattle.std.proofs.Math.Nat.{mod-eq_of_lt}
use Rattle.nif_scope.proofs.Powers.{below_power}
use Rattle.nif_scope.proofs.bits.lowest.Goals as goal

pub returns : goal.returns
returns c = sym (mod-eq_of_lt (below_power c.args.bits c.args.width c.ranges.bits.fits c.if-width-lt64.false))
