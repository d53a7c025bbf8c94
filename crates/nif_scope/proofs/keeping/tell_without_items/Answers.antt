use Rattle.std.proofs.Common.{◌+◌, ◌∷◌, [], ◌++◌, drop, ap, ◌∙◌, append_assoc}
use Rattle.nif_scope.specs.Keeping.{without_items}
use Rattle.nif_scope.proofs.Growing.{pass_step, keep_step}
use Rattle.nif_scope.proofs.keeping.tell_without_items.Goals as goal
use Rattle.nif_scope.proofs.keeping.tell_without_items.Goals.{then-passed-gt0, else-passed-gt0+in-Ok}

pub loop-entry-preserved : goal.loop-entry-preserved
loop-entry-preserved c = elim c.if-passed-gt0.branch [
  | then-passed-gt0 w ↦
      let step = pass_step c.loop-entry.passed c.if-passed-gt0.passed c.loop-entry.entry-index c.args.inner.now w.if-passed-gt0.true w.passed-is c.loop-entry-test.true in
      ap (λ v. v.items ++ without_items c.if-passed-gt0.passed (drop (c.loop-entry.entry-index + 1) c.args.inner.now)) w.entries-is
      ∙ ap (λ es. c.loop-entry.entries.items ++ es) step ∙ c.loop-entry.invariant
  | else-passed-gt0+in-Ok w ↦
      let step = keep_step c.loop-entry.passed c.if-passed-gt0.passed c.loop-entry.entry-index c.args.inner.now _ w.if-passed-gt0.false (w.passed-is ∙ w.items_behind-passed.ensures) c.loop-entry-test.true in
      let rest = without_items c.if-passed-gt0.passed (drop (c.loop-entry.entry-index + 1) c.args.inner.now) in
      ap (λ v. v.items ++ rest) w.entries-is
      ∙ ap (λ es. es ++ rest) (w.in-Ok.ensures ∙ ap (λ e. c.loop-entry.entries.items ++ e ∷ []) w.plain.ensures)
      ∙ append_assoc c.loop-entry.entries.items (_ ∷ []) rest
      ∙ ap (λ es. c.loop-entry.entries.items ++ es) step ∙ c.loop-entry.invariant
]
