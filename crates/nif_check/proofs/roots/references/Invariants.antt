use Rattle.std.proofs.Common.{◌≡◌, ℕ, ◌<◌, length, Some, slice_get}
use Rattle.nif_schema.specs.Uses.{what_at}
use Rattle.nif_schema.specs.Roles.{refers}
use Rattle.nif_schema.specs.declared.decls.What.{What}
use Rattle.nif_check.proofs.roots.references.Given as goal

abbrev pub invariant-loop-number : goal.invariant-loop-number
invariant-loop-number l = record {
  count : length l.marks.items ≡ l.number;
  each : (k : ℕ) (what : What) → k < l.number → what_at l.schema k ≡ Some what → slice_get l.marks.items k ≡ Some (refers what);
}
