use Rattle.std.proofs.Common.{◌≡◌, ◌++◌, take}
use Rattle.nif_scope.proofs.keeping.tell_all.Given as goal

abbrev pub invariant-loop-item : goal.invariant-loop-item
invariant-loop-item l = l.entries.items ≡ l.fn.entries.items ++ take l.item-index l.items
