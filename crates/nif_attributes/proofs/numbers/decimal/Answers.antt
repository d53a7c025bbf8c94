use Rattle.std.proofs.Common.{◌≡◌, ◌+◌, take, get_or, true, sym, ap, ◌∙◌, arith}
use Rattle.std.specs.Prelude.{◌&&◌}
use Rattle.std.specs.Char.{is_ascii_digit}
use Rattle.std.specs.List.{list_all}
use Rattle.std.specs.Str.Parse.{digits_value}
use Rattle.std.proofs.lemmas.Bool.Decides.{nat_tests}
use Rattle.std.proofs.lemmas.List.{take_all}
use Rattle.std.proofs.lemmas.List.Folds.{list_all_more, list_all_at}
use Rattle.std.proofs.lemmas.Str.Parse.{digits_value-take-le}
use Rattle.nif_attributes.proofs.Decimals.{digit_read, decimal_empty, decimal_other, decimal_above, decimal_read}
use Rattle.nif_attributes.proofs.numbers.decimal.Goals as goal

pub returns-then-is_empty-clause-value : goal.returns-then-is_empty-clause-value
returns-then-is_empty-clause-value c = decimal_empty c.args.most c.args.text.now (grind (arith, nat_tests))

pub returns-then-not-is_ascii_digit-clause-value : goal.returns-then-not-is_ascii_digit-clause-value
returns-then-not-is_ascii_digit-clause-value c =
    decimal_other c.args.most c.args.text.now
    (list_all_at is_ascii_digit c.args.text.now c.loop-digit.digit-index 0 c.loop-digit-test.true (sym c.is_ascii_digit.ensures.value ∙ c.if-not-is_ascii_digit.true))

pub returns-then-number-from-clause-value : goal.returns-then-number-from-clause-value
returns-then-number-from-clause-value c =
    let digits = c.args.text.now in
    let i = c.loop-digit.digit-index in
    let digit : is_ascii_digit (get_or digits i 0) ≡ true = sym c.is_ascii_digit.ensures.value ∙ c.if-not-is_ascii_digit.false in
    let value = digit_read digits i c.loop-digit.number c.from.result c.loop-digit-test.true digit c.loop-digit.invariant.value c.from.ensures in
    decimal_above c.args.most digits (omega (arith, value, digits_value-take-le 10 digits (i + 1) (omega arith), c.if-number-from.true, c.from-in-loop-digit.ensures))

pub loop-digit-preserved : goal.loop-digit-preserved
loop-digit-preserved c =
    let digits = c.args.text.now in
    let i = c.loop-digit.digit-index in
    let digit : is_ascii_digit (get_or digits i 0) ≡ true = sym c.is_ascii_digit.ensures.value ∙ c.if-not-is_ascii_digit.false in
    record {
      digits = list_all_more is_ascii_digit digits i 0 c.loop-digit-test.true ∙ ap (λ b. b && is_ascii_digit (get_or digits i 0)) c.loop-digit.invariant.digits ∙ digit;
      value = digit_read digits i c.loop-digit.number c.from.result c.loop-digit-test.true digit c.loop-digit.invariant.value c.from.ensures;
      small = omega arith;
    }

pub returns-clause-value : goal.returns-clause-value
returns-clause-value c =
    let digits = c.args.text.now in
    let all : take c.loop-digit.digit-index digits ≡ digits = take_all c.loop-digit.digit-index digits c.loop-digit-test.false in
    decimal_read c.args.most digits c.loop-digit.number
    (sym (ap (list_all is_ascii_digit) all) ∙ c.loop-digit.invariant.digits)
    (grind (arith, nat_tests))
    (c.loop-digit.invariant.value ∙ ap (digits_value 10) all)
    c.loop-digit.invariant.small
