-- Sets that have the same types together.
use Rattle.std.specs.Prelude.{ℕ, ◌↔◌, List, flat_map, Contains}
use Rattle.std.specs.List.{All}
use Rattle.nif_sets.specs.Sets.{Sets, IsSet, types_of}
use Rattle.nif_sets.specs.declared.sets.TypeSet.{TypeSet}

-- sets that are there, with the types of others
pub record IsLike (sets : Sets) (own others : List TypeSet) : Type 0 where
  pub within : All (IsSet sets) own
  pub types : (number : ℕ)
      → Contains (flat_map (types_of sets) own) number ↔ Contains (flat_map (types_of sets) others) number
