use Rattle.std.proofs.Common.{◌≡◌, ℕ, length, Some, slice_get}
use Rattle.nif_names.specs.Tables.{Table}
use Rattle.nif_paths.specs.Shaped.{HasInside}
use Rattle.nif_paths.proofs.tables.inside_tables.Given as goal

abbrev pub invariant-loop-number : goal.invariant-loop-number
invariant-loop-number l =
    (length l.tables.items ≡ l.number) × ((k : ℕ) (table : Table) → slice_get l.tables.items k ≡ Some table → HasInside l.schema k table)
