use Rattle.std.proofs.Common.{◌≡◌, ◌≤◌, ◌-◌, ℕ, List, [], ◌∷◌, length, take}
use Rattle.nif_names.specs.Marks.{IsFound}
use Rattle.nif_names.specs.Tables.{held, kinds}
use Rattle.nif_schema.specs.Schema.{Schema}
use Rattle.nif_paths.specs.Shaped.{AreInsides}
use Rattle.nif_paths.specs.Marks.{HasMarks, types_stop, key_of_run}
use Rattle.nif_paths.proofs.pairs.kept_reason.Given as goal

abbrev pub invariant-further : goal.invariant-further
invariant-further l = record {
  within : l.found.count ≤ length (kinds l.names l.first).types;
  shapes : (other : List ℕ) → held l.names other ≡ held l.initial.names other;
  types : (kinds l.names l.first).types ≡ (kinds l.initial.names l.first).types;
  marks : (schema : Schema) → AreInsides schema l.tables → HasMarks schema l.initial.names
      → (types_stop schema (take l.found.count (kinds l.initial.names l.first).types) (l.name ∷ []) ≡ l.found.stop) × HasMarks schema l.names;
  runs : (other : List ℕ) (from to : ℕ) (types : List ℕ) (stop : ℕ) → IsFound (kinds l.names other) (key_of_run from to) types stop
      → IsFound (kinds l.initial.names other) (key_of_run from to) types stop;
}

abbrev pub decreases-further : goal.decreases-further
decreases-further l = length (kinds l.names l.first).types - l.found.count
