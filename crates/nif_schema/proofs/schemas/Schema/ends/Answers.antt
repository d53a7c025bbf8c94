use Rattle.std.proofs.Common.{◌≡◌, ◌+◌, length, None, sym, ap, refl, ◌∙◌, arith}
use Rattle.nif_schema.specs.Schema.{ancestor}
use Rattle.nif_schema.proofs.WalkLemmas.{ancestor_end, ended}
use Rattle.nif_schema.proofs.schemas.Schema.ends.Goals as goal

pub returns-in_default : goal.returns-in_default
returns-in_default c =
    let n = c.loop-steps._steps in
    let end = ancestor_end c.args.self.now n c.args.number c.loop-steps.at c.loop-steps.invariant.1 (sym c.parent.ensures.value ∙ c.in_default.is) in
    (λ p. (n + 1, end), λ ends. refl)

pub returns : goal.returns
returns c =
    let s = c.args.self.now in
    let count : c.loop-steps._steps ≡ length s = omega (arith, c.count-steps-end.ensures.value) in
    let at = c.loop-steps.invariant.1 in (
      λ p. absurd (cc),
      λ ends.
          let none : ancestor s c.loop-steps._steps c.args.number ≡ None = ap (λ k. ancestor s k c.args.number) count ∙ ended s c.args.number c.requires ends in
          absurd (cc),
    )
