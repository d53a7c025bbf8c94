use Rattle.std.proofs.Common.{◌≡◌, ◌++◌, drop}
use Rattle.nif_scope.specs.Keeping.{without_items}
use Rattle.nif_scope.proofs.keeping.tell_without_items.Given as goal

abbrev pub invariant-loop-entry : goal.invariant-loop-entry
invariant-loop-entry l = l.entries.items ++ without_items l.passed (drop l.entry-index l.inner) ≡ l.fn.entries.items ++ without_items 0 l.inner
