use Rattle.std.proofs.Common.{◌≡◌, length}
use Rattle.std.specs.Option.{IsSomeAnd}
use Rattle.nif_test_parts.proofs.regions.build.Given as goal

abbrev pub invariant-loop-i : goal.invariant-loop-i
invariant-loop-i l = IsSomeAnd l.region.building (λ cells. length cells ≡ l.i)
