use Rattle.std.proofs.Common.{Some, take, drop, ap, sym, ◌∙◌, arith}
use Rattle.nif_attributes.proofs.Finding.{below_or_at}
use Rattle.nif_attributes.proofs.index.TokenIndex.look_along.Goals as goal

pub loop-place-preserved : goal.loop-place-preserved
loop-place-preserved c = record {
  low = omega (arith, c.look-best.ensures.low);
  high = omega (arith, c.look-best.ensures.high, c.loop-place.invariant.high);
  none = λ texts covered n token low high is size place below same.
      below_or_at place c.loop-place.place below
      (λ before. c.loop-place.invariant.none texts covered n token low (omega (arith, high, c.look-best.ensures.high)) is size place before same)
      (λ here. c.look-best.ensures.none texts covered n low high (is ∙ ap (λ t. Some t) (sym same
      ∙ ap (λ p. take c.args.size (drop p c.args.text.now)) here
      ∙ ap (λ m. take m (drop c.loop-place.place c.args.text.now)) (omega arith))));
}
