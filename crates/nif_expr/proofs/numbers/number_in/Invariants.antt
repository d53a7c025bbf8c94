use Rattle.nif_expr.specs.Classes.{holds}
use Rattle.nif_expr.proofs.DigitLemmas.{IsReading}
use Rattle.nif_expr.proofs.numbers.number_in.Given as goal

abbrev pub invariant-loop-b : goal.invariant-loop-b
invariant-loop-b l = IsReading (holds l.class) l.base l.digits l.n l.b-index
