use Rattle.std.proofs.Common.{◌≡◌, ℕ, ◌<◌, length, Some}
use Rattle.nif_schema.specs.Schema.{ancestor}
use Rattle.nif_schema.proofs.schemas.Schema.is_a.Given as goal

abbrev pub invariant-loop-steps : goal.invariant-loop-steps
invariant-loop-steps l =
    (l.at < length l.self)
    × (ancestor l.self l._steps l.number ≡ Some l.at)
    × ((k : ℕ) → k < l._steps → ancestor l.self k l.number ≡ Some l.of → ⊥)
