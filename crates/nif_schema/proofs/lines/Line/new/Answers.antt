use Rattle.std.proofs.Common.{◌≡◌, sym, ◌∙◌, length, ap, None, arith}
use Rattle.nif_schema.specs.Schema.{ancestor}
use Rattle.nif_schema.proofs.WalkLemmas.{ended}
use Rattle.nif_schema.proofs.LineLemmas.{left_of-root}
use Rattle.nif_schema.proofs.lines.Line.new.Goals as goal

pub returns-in_default : goal.returns-in_default
returns-in_default c =
    left_of-root c.args.schema.now c.args.own c.loop-above.above c.loop-above.number c.requires.within c.requires.ends c.loop-above.invariant.1
    (sym c.parent.ensures.value ∙ c.in_default.is)

pub unreachable-requires : goal.unreachable-requires
unreachable-requires c =
    let count : c.loop-above.above ≡ length c.args.schema.now = omega (arith, c.count-above-end.ensures.value) in
    let at = c.loop-above.invariant.1 in
    let end = ended c.args.schema.now c.args.own c.requires.within c.requires.ends in
    let none : ancestor c.args.schema.now c.loop-above.above c.args.own ≡ None = ap (λ k. ancestor c.args.schema.now k c.args.own) count ∙ end in
    cc
