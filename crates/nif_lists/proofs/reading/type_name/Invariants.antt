use Rattle.std.proofs.Common.{◌≡◌}
use Rattle.nif_lists.specs.Passing.{behind_first}
use Rattle.nif_lists.proofs.reading.type_name.Given as goal

abbrev pub invariant-loop : goal.invariant-loop
invariant-loop l = l.walk.ahead ≡ behind_first l.counter l.initial.walk.ahead

abbrev pub invariant-loop-2 : goal.invariant-loop-2
invariant-loop-2 l = l.walk.ahead ≡ behind_first l.counter l.initial.walk.ahead
