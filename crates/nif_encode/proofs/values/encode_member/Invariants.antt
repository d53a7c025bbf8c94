use Rattle.std.proofs.Common.{◌≡◌}
use Rattle.nif_encode.specs.Texts.{behind_many}
use Rattle.nif_encode.proofs.values.encode_member.Given as goal

abbrev pub invariant-loop : goal.invariant-loop
invariant-loop g l = l.walk.ahead ≡ behind_many l.counter l.initial.walk.ahead
