use Rattle.nif_reasons.specs.Visits.{AreParted}
use Rattle.nif_reasons.proofs.visits.add_children.Given as goal

abbrev pub invariant-loop-number : goal.invariant-loop-number
invariant-loop-number l = AreParted l.schema l.number l.children
