use Rattle.std.proofs.Common.{◌≡◌, ◌+◌, ◌∷◌, [], Some, length, slice_get, sym, ap, ◌∙◌, arith}
use Rattle.std.proofs.lemmas.List.{length-append}
use Rattle.nif_schema.specs.Uses.{what_at}
use Rattle.nif_schema.specs.Roles.{refers}
use Rattle.nif_check.proofs.ReasonLemmas.{grown}
use Rattle.nif_check.proofs.RootLemmas.{what-at, what-within}
use Rattle.nif_check.proofs.roots.references.Goals as goal

pub loop-number-preserved : goal.loop-number-preserved
loop-number-preserved c =
    let marks = c.loop-number.marks.items in
    let number = c.loop-number.number in
    let new = c.refers.result in
    record {
      count = ap length c.in-Ok.ensures.items ∙ length-append marks (new ∷ []) ∙ ap (λ n. n + 1) c.loop-number.invariant.count;
      each = λ k what lt a.
          ap (λ l. slice_get l k) c.in-Ok.ensures.items
          ∙ grown marks number new k (refers what) c.loop-number.invariant.count (λ l. c.loop-number.invariant.each k what l a)
          (λ is.
          let at : what_at c.args.schema.now number ≡ Some what = ap (what_at c.args.schema.now) (sym is) ∙ a in
          c.refers.ensures ∙ ap refers (what-at c.args.schema.now number c.decl.result.now what c.decl.ensures at))
          lt;
    }

pub returns-clause-each : goal.returns-clause-each
returns-clause-each c = λ k what a.
    c.loop-number.invariant.each k what (omega (arith, what-within c.args.schema.now k what a, c.loop-number-test.false, c.count-number-end.ensures.value)) a
