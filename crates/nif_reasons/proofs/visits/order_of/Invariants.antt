use Rattle.std.proofs.Common.{◌-◌, length}
use Rattle.nif_reasons.proofs.VisitLemmas.{AreVisited}
use Rattle.nif_reasons.proofs.visits.order_of.Given as goal

abbrev pub invariant-down : goal.invariant-down
invariant-down l = AreVisited l.schema l.order.items l.waiting.items

abbrev pub decreases-down : goal.decreases-down
decreases-down l = length l.schema - length l.order.items
