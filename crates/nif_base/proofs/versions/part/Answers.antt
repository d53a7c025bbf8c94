use Rattle.std.proofs.Common.{◌≡◌, ◌≤◌, ◌-◌, get_or, true, arith, sym, ap, ◌∙◌}
use Rattle.std.specs.Prelude.{◌&&◌}
use Rattle.std.specs.Char.{is_ascii_digit}
use Rattle.std.proofs.lemmas.List.Folds.{list_all_more}
use Rattle.nif_base.proofs.VersionLemmas.{digit_below, digit_read}
use Rattle.nif_base.proofs.versions.part.Goals as goal

pub loop-digit-preserved : goal.loop-digit-preserved
loop-digit-preserved c =
    let i = c.loop-digit.digit-index in
    let digits = c.args.digits.now in
    let before = c.loop-digit.invariant in
    let digit : is_ascii_digit (get_or digits i 0) ≡ true = sym c.is_ascii_digit.ensures.value ∙ c.if-not-is_ascii_digit.false in
    let below : get_or digits i 0 - 48 ≤ 9 = digit_below (get_or digits i 0) digit in
    record {
      digits = list_all_more is_ascii_digit digits i 0 c.loop-digit-test.true ∙ ap (λ b. b && is_ascii_digit (get_or digits i 0)) before.digits ∙ digit;
      value = digit_read digits i c.loop-digit.value c.from.result c.loop-digit-test.true digit before.value c.from.ensures;
      none = λ h. omega arith;
      one = λ h. omega arith;
      two = λ h. omega arith;
      three = omega (arith, before.two);
    }
