use Rattle.std.proofs.Common.{◌≡◌, ℕ, false, true, ◌≤◌, ◌<◌, length, Some, sym, ap, ◌∙◌, ⊎_elim, arith}
use Rattle.std.proofs.lemmas.Bool.{cases_lt}
use Rattle.nif_schema.specs.Schema.{ancestor, IsA}
use Rattle.nif_schema.proofs.WalkLemmas.{no_ancestor, no_ancestor_past, ancestor_end, is_a-answer, is_a-decides}
use Rattle.nif_schema.proofs.schemas.Schema.is_a.Goals as goal

pub returns-then-at-of-clause-value : goal.returns-then-at-of-clause-value
returns-then-at-of-clause-value c =
    let s = c.args.self.now in
    let steps = c.loop-steps._steps in
    let here : ancestor s steps c.args.number ≡ Some c.args.of = c.loop-steps.invariant.1 ∙ ap (λ (at : ℕ). Some at) c.if-at-of.true in
    sym ((is_a-decides s c.args.number c.args.of c.requires.number).1 (steps, here))

pub returns-in_default : goal.returns-in_default
returns-in_default c =
    let s = c.args.self.now in
    let n = c.loop-steps._steps in
    let end = ancestor_end s n c.args.number c.loop-steps.at c.loop-steps.invariant.1 (sym c.parent.ensures.value ∙ c.in_default.is) in
    let apart : (k : ℕ) → k ≤ n → ancestor s k c.args.number ≡ Some c.args.of → ⊥ = λ k le e.
    ⊎_elim (λ lt. c.loop-steps.invariant.2 k lt e)
    (λ ge. let same : k ≡ n = omega arith in let at = ap (λ j. ancestor s j c.args.number) same in let here = c.loop-steps.invariant.1 in c.if-at-of.false (cc))
    (cases_lt k n)
    in
    let walk : (false ≡ true → IsA s c.args.number c.args.of) × (IsA s c.args.number c.args.of → false ≡ true) = (λ p. absurd (cc), λ is. absurd (no_ancestor_past s n c.args.number c.args.of apart end is)) in
    record { walk = walk; value = is_a-answer s false c.args.number c.args.of c.requires.number walk.0 walk.1 }

pub returns : goal.returns
returns c =
    let s = c.args.self.now in
    let apart : (k : ℕ) → k < length s → ancestor s k c.args.number ≡ Some c.args.of → ⊥ = λ k lt e.
    c.loop-steps.invariant.2 k (omega (arith, c.count-steps-end.ensures.value)) e
    in
    let walk : (false ≡ true → IsA s c.args.number c.args.of) × (IsA s c.args.number c.args.of → false ≡ true) = (λ p. absurd (cc), λ is. absurd (no_ancestor s c.args.number c.args.of c.requires.number apart is)) in
    record { walk = walk; value = is_a-answer s false c.args.number c.args.of c.requires.number walk.0 walk.1 }
