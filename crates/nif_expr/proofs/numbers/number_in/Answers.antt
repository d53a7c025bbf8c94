use Rattle.std.proofs.Common.{arith, sym, ◌∙◌}
use Rattle.nif_expr.specs.Classes.{holds}
use Rattle.nif_expr.proofs.DigitLemmas.{reading_more, reading_large, reading_all}
use Rattle.nif_expr.proofs.numbers.number_in.Goals as goal

pub returns-in_default-clause-none : goal.returns-in_default-clause-none
returns-in_default-clause-none c = λ all small.
    reading_large (holds c.args.class) c.args.base c.args.digits.now c.loop-b.n c.loop-b.b-index c.from.result c.requires
    c.loop-b-test.true (c.from.ensures ∙ c.digit_value.ensures.value) c.in_default.ensures c.loop-b.invariant small

pub loop-b-preserved : goal.loop-b-preserved
loop-b-preserved c =
    reading_more (holds c.args.class) c.args.base c.args.digits.now c.loop-b.n c.in-Some.next c.loop-b.b-index c.from.result
    c.loop-b-test.true (sym c.has.ensures ∙ c.if-not-has.false) (c.from.ensures ∙ c.digit_value.ensures.value) c.in-Some.ensures.1 c.loop-b.invariant

pub returns-clause-some : goal.returns-clause-some
returns-clause-some c = reading_all (holds c.args.class) c.args.base c.args.digits.now c.loop-b.n c.loop-b.b-index (omega arith) c.loop-b.invariant
