use Rattle.std.proofs.Common.{◌≡◌, None}
use Rattle.nif_test_parts.proofs.regions.build_hundred.Given as goal

abbrev pub invariant-loop-number : goal.invariant-loop-number
invariant-loop-number l = l.region.building ≡ None
