use Rattle.std.proofs.Common.{sym}
use Rattle.std.proofs.Math.Nat.{div-eq_of_lt}
use Rattle.nif_scope.proofs.Powers.{below_power}
use Rattle.nif_scope.proofs.bits.bits_above.Goals as goal

pub returns : goal.returns
returns c = sym (div-eq_of_lt (below_power c.args.bits c.args.pos c.ranges.bits.fits c.if-pos-lt64.false))
