use Rattle.nif_expr.specs.Classes.{holds}
use Rattle.nif_expr.proofs.RunLemmas.{IsRun}
use Rattle.nif_expr.proofs.runs.Class.split.Given as goal

abbrev pub invariant-loop-i : goal.invariant-loop-i
invariant-loop-i l = IsRun (holds l.self) l.text l.i
