use Rattle.std.proofs.Common.{◌≡◌, ◌-◌, ◌+◌, ◌∙◌, sym, ap, None, arith}
use Rattle.nif_schema.specs.Schema.{ancestor}
use Rattle.nif_schema.proofs.WalkLemmas.{some_from_IsSome, ancestor_end, ancestor_past}
use Rattle.nif_schema.proofs.lines.go_up.Goals as goal

pub unreachable-requires : goal.unreachable-requires
unreachable-requires c =
    let s = c.args.schema.now in
    let done = c.loop-done._done in
    let steps = c.args.steps in
    let end = ancestor_end s done c.args.number c.loop-done.at c.loop-done.invariant.1 (sym c.parent.ensures.value ∙ c.in_default.is) in
    let z : steps - (done + 1) + (done + 1) ≡ steps = omega arith in
    let none : ancestor s steps c.args.number ≡ None = ap (λ k. ancestor s k c.args.number) (sym z) ∙ ancestor_past s (steps - (done + 1)) (done + 1) c.args.number end in
    let some = some_from_IsSome (ancestor s steps c.args.number) c.requires.reaches in
    let found = some.1 in
    cc
