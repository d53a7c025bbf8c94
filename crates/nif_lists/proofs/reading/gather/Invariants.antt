use Rattle.std.proofs.Common.{◌≡◌}
use Rattle.nif_lists.specs.Passing.{behind_first}
use Rattle.nif_lists.specs.Lists.{kept_first}
use Rattle.nif_lists.proofs.reading.gather.Given as goal

abbrev pub invariant-loop-place : goal.invariant-loop-place
invariant-loop-place l = record {
  ahead : l.walk.ahead ≡ behind_first l.place l.initial.walk.ahead;
  lists : l.lists ≡ kept_first l.schema l.places l.place l.initial.walk.ahead;
}
