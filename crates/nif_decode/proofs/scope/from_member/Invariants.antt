use Rattle.std.proofs.Common.{◌≡◌}
use Rattle.nif_decode.specs.Scopes.{from_member}
use Rattle.nif_decode.proofs.scope.from_member.Given as goal

-- the entries behind those of the members that were passed
abbrev pub invariant-loop-passed : goal.invariant-loop-passed
invariant-loop-passed l = l.rest ≡ from_member l._passed l.entries
