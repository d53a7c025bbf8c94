use Rattle.std.proofs.Common.{ℕ, ◌≡◌, ◌-◌, ◌<◌, ◌^◌, List, length, Option, None, Some, arith}
use Rattle.std.specs.Option.{IsSomeAnd}
use Rattle.nif_region.specs.declared.cells.Cell.{Cell}
use Rattle.nif_test_parts.proofs.regions.build.Goals as goal

few : (building : Option (List Cell)) (i : ℕ) → i < 1000 → IsSomeAnd building (λ cells. length cells ≡ i) → IsSomeAnd building (λ cells. length cells < 2 ^ 32 - 2)
few None i l h = h
few (Some cells) i l h = omega arith

pub push-requires : goal.push-requires
push-requires c = few _ _ (omega arith) c.loop-i.invariant
