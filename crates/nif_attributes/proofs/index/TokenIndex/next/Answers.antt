use Rattle.std.proofs.Common.{length, eqb, ap, ◌∙◌, arith}
use Rattle.std.proofs.lemmas.List.{take_all}
use Rattle.std.specs.List.{list_any}
use Rattle.nif_attributes.proofs.Finding.{any_more}
use Rattle.nif_attributes.proofs.index.TokenIndex.next.Goals as goal

pub loop-size-preserved : goal.loop-size-preserved
loop-size-preserved c = record {
  low = omega (arith, c.look_along-best.ensures.low);
  high = omega (arith, c.look_along-best.ensures.high, c.loop-size.invariant.high);
  none = λ texts covered n token low high is any.
      any_more (length token) c.deref-size-items.result.now c.loop-size.size-index (omega arith) any
      (λ before. c.loop-size.invariant.none texts covered n token low (omega (arith, high, c.look_along-best.ensures.high)) is before)
      (λ here. c.look_along-best.ensures.none texts covered n token low high is here);
}

pub returns-clause-none : goal.returns-clause-none
returns-clause-none c texts covered n token low high is =
    c.loop-size.invariant.none texts covered n token low high is
    (ap (list_any (eqb (length token))) (take_all c.loop-size.size-index c.deref-size-items.result.now (omega arith) ∙ c.deref-size-items.ensures.value) ∙ (covered n token is).measured)
