use Rattle.std.proofs.Common.{ℕ, List, [], ◌∷◌, ◌++◌, refl, arith, subst, sym}
use Rattle.nif_text.specs.Documents.{Aside}
use Rattle.nif_text.specs.Reading.{Longest}
use Rattle.nif_text.proofs.Runs.{many_more}
use Rattle.nif_text.proofs.document.asides.Goals as goal

pub loop-preserved : goal.loop-preserved
loop-preserved c =
    let run = c.loop.invariant.run in
    record {
      run = (run.0 ++ tt ∷ [], many_more (λ (_ : Unit {0}). Aside) run.0 tt c.args.text.now c.loop.text c.aside.new.text run.1 (c.loop-test.ensures.yes refl));
      shorter = omega (arith, c.loop-test.ensures.shorter);
    }

pub returns-clause-run : goal.returns-clause-run
returns-clause-run c =
    let run = c.loop.invariant.run in
    let Q : List ℕ → Type 0 = λ x. Longest (λ (_ : Unit {0}). Aside) run.0 c.args.text.now x in
    (run.0, subst Q (sym (c.loop-test.ensures.stays refl)) (record { many = run.1; ends = λ _ rest a. c.loop-test.ensures.no refl rest a }))
