use Rattle.std.proofs.Common.{◌≡◌, ℕ, ◌<◌, length, Some, slice_get}
use Rattle.nif_schema.specs.Uses.{is_generic}
use Rattle.nif_uses.proofs.templates.generic_structs.Given as goal

abbrev pub invariant-loop-number : goal.invariant-loop-number
invariant-loop-number l =
    (length l.marks.items ≡ l.number) × ((k : ℕ) → k < l.number → slice_get l.marks.items k ≡ Some (is_generic l.schema k))
