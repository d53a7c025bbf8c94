use Rattle.std.proofs.Common.{ℕ, List, [], ◌∷◌, ◌++◌, sym, ◌∙◌, subst, arith}
use Rattle.nif_text.specs.Attributes.{ValuePart}
use Rattle.nif_text.specs.Reading.{Longest}
use Rattle.nif_text.proofs.Runs.{many_more}
use Rattle.nif_text.proofs.Values.{joined_behind}
use Rattle.nif_text.proofs.value.value_parts.Goals as goal

pub loop-preserved : goal.loop-preserved
loop-preserved c =
    let run = c.loop.invariant.0 in
    let part = rw c.if-branch.true at c.in_ok-value_part.ensures.part in (
      (
        run.0 ++ part.0 ∷ [],
        many_more (ValuePart c.args.quote) run.0 part.0 c.args.text.now c.loop.text c.value_part.new.text run.1 part.1,
        joined_behind c.args.out.now.items c.loop.out.items c.value_part.new.out.items part.0 run.0 run.2 part.2,
      ),
      omega (arith, c.in_ok-value_part.ensures.shorter),
    )

pub returns-clause-run : goal.returns-clause-run
returns-clause-run c =
    let run = c.loop.invariant.0 in
    let stays = rw c.if-branch.false at c.in_ok-value_part.ensures.part in
    let Q : List ℕ → Type 0 = λ x. Longest (ValuePart c.args.quote) run.0 c.args.text.now x in
    (run.0, subst Q (sym stays.1) (record { many = run.1; ends = stays.0 }), stays.2 ∙ run.2)
