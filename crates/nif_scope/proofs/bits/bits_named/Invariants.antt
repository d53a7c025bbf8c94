use Rattle.std.proofs.Common.{◌≡◌, drop}
use Rattle.nif_scope.specs.Lookup.{bits_named}
use Rattle.nif_scope.proofs.bits.bits_named.Given as goal

-- no member that was passed has the name
abbrev pub invariant-loop-place : goal.invariant-loop-place
invariant-loop-place l = bits_named l.name l.bits (drop l.place l.members) ≡ bits_named l.name l.bits l.members
