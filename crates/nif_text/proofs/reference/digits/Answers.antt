use Rattle.std.proofs.Common.{[], ◌∷◌, ◌++◌, arith}
use Rattle.nif_text.specs.Parts.{Byte}
use Rattle.nif_base.specs.Ascii.{digit_value}
use Rattle.nif_text.specs.References.{number}
use Rattle.nif_text.specs.Bases.{base_of, is_digit}
use Rattle.nif_text.proofs.Runs.{many_more}
use Rattle.nif_text.proofs.Numbers.{number_more, capped_more, capped_stays, base_positive}
use Rattle.nif_text.proofs.reference.digits.Goals as goal

pub loop-c-preserved-then-number-lt-CHARACTERS : goal.loop-c-preserved-then-number-lt-CHARACTERS
loop-c-preserved-then-number-lt-CHARACTERS c =
    let run = c.loop-c.invariant.run in
    record {
      run = (
        run.0 ++ c.in-Some.c.now ∷ [],
        many_more (Byte (is_digit c.args.base)) run.0 c.in-Some.c.now c.args.text.now c.loop-c.rest.now c.in-Some.next.now run.1
            (c.in-Some.ensures.cases.0, c.in-Some-digit.ensures.some.0),
        rw (number_more, c.loop-c.invariant.radix, c.in-Some-digit.ensures.some.1)
            (capped_more (base_of c.args.base) c.loop-c.number (number (base_of c.args.base) 0 run.0) (digit_value c.in-Some.c.now) run.2 c.if-number-lt-CHARACTERS.true),
      );
      shorter = omega (arith, c.in-Some.ensures.cases);
      radix = c.loop-c.invariant.radix;
    }

pub loop-c-preserved : goal.loop-c-preserved
loop-c-preserved c =
    let run = c.loop-c.invariant.run in
    record {
      run = (
        run.0 ++ c.in-Some.c.now ∷ [],
        many_more (Byte (is_digit c.args.base)) run.0 c.in-Some.c.now c.args.text.now c.loop-c.rest.now c.in-Some.next.now run.1
            (c.in-Some.ensures.cases.0, c.in-Some-digit.ensures.some.0),
        rw number_more
            (capped_stays (base_of c.args.base) c.loop-c.number (number (base_of c.args.base) 0 run.0) (digit_value c.in-Some.c.now) (base_positive c.args.base) run.2 c.if-number-lt-CHARACTERS.false),
      );
      shorter = omega (arith, c.in-Some.ensures.cases);
      radix = c.loop-c.invariant.radix;
    }
