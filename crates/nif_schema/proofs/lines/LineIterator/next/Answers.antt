use Rattle.std.proofs.Common.{◌+◌, ◌∷◌, ◌∙◌, sym, ap, arith}
use Rattle.nif_schema.specs.Declaration.{field}
use Rattle.nif_schema.specs.Kept.{left_of}
use Rattle.nif_schema.proofs.WalkLemmas.{ancestor-within}
use Rattle.nif_schema.proofs.LineLemmas.{left_of-next, left_of-down}
use Rattle.nif_schema.proofs.lines.LineIterator.next.Goals as goal

pub decl-requires : goal.decl-requires
decl-requires c =
    let on = c.loop-self.invariant.1 in
    ancestor-within c.self.inside.schema.now c.loop-self.self-inside.above c.loop-self.self-inside.own c.loop-self.self-inside.number on.own_within on.at

pub returns-then-self-len-clause-steps : goal.returns-then-self-len-clause-steps
returns-then-self-len-clause-steps c =
    let l = c.loop-self.self-inside in
    sym c.loop-self.invariant.2
    ∙ left_of-next c.self.inside.schema.now l.own l.above l.number l.place c.decl.result.now c.get-field.result.now c.decl.ensures c.get-field.ensures
    ∙ ap (λ s. field c.get-field.result.now ∷ left_of s l.own l.above l.number (l.place + 1)) (sym c.loop-self.invariant.0)

pub loop-self-preserved : goal.loop-self-preserved
loop-self-preserved c =
    let l = c.loop-self.self-inside in
    let on = c.loop-self.invariant.1 in (
      c.loop-self.invariant.0,
      record { own_within = on.own_within; at = c.climb-self-inside.ensures.value; remembered = c.climb-self-inside.ensures.remembered },
      left_of-down c.self.inside.schema.now l.own l.above l.number l.place c.climb-self-inside.result c.decl.result.now c.decl.ensures (omega (arith, c.len.ensures))
          c.if-self-eq0.false c.climb-self-inside.ensures.value
          ∙ c.loop-self.invariant.2,
    )
