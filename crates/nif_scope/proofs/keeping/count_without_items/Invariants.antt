use Rattle.std.proofs.Common.{◌≡◌, ◌+◌, ◌≤◌, length, drop}
use Rattle.nif_scope.specs.Keeping.{without_items}
use Rattle.nif_scope.proofs.keeping.count_without_items.Given as goal

-- how many there are of those that were passed
abbrev pub invariant-loop-place : goal.invariant-loop-place
invariant-loop-place l = record {
  counted : l.count + length (without_items l.passed (drop l.place l.inner)) ≡ length (without_items 0 l.inner);
  few : l.count ≤ l.place;
}
