use Rattle.std.proofs.Common.{length}
use Rattle.nif_expr.proofs.PathLemmas.{IsWay}
use Rattle.nif_expr.proofs.parts.path.Given as goal

abbrev pub invariant-loop-next : goal.invariant-loop-next
invariant-loop-next l = IsWay l.text l.path l.rest

abbrev pub decreases-loop-next : goal.decreases-loop-next
decreases-loop-next l = length l.rest
