-- Sets of types.
use Rattle.std.specs.Prelude.{ℕ, ◌≡◌, ◌<◌, ◌+◌, List, [], ◌∷◌, ◌++◌, flat_map, fold, length, slice_index_or, IfSome}
use Rattle.std.specs.List.{sum_by}
use Rattle.std.specs.declared.option.Option.{Option}
use Rattle.nif_sets.specs.declared.sets.TypeSet.{TypeSet}
use Rattle.nif_sets.specs.declared.sets.TypeSet.TheVariants.{One, Joined}
use Rattle.nif_sets.specs.declared.sets.Inside.{Inside}

-- what is known of a name in a set
pub record Known : Type 0 where
  pub set : TypeSet
  pub name : List ℕ
  pub answer : Option Inside

-- the parts of each joined set, and what is known of names in sets
pub record Sets : Type 0 where
  pub parts : List (List TypeSet)
  pub known : List Known

-- How much is kept: the parts of all joined sets, and each answer with the bytes of its name.
abbrev pub size : Sets → ℕ
size sets = sum_by length sets.parts + sum_by (λ known. length known.name + 1) sets.known

-- the types in a set, where those in the joined sets are these
abbrev pub members : List (List ℕ) → TypeSet → List ℕ
members joined (One number) = number ∷ []
members joined (Joined number) = slice_index_or joined number []

-- The types in each joined set: those in its parts, which are single types or sets that were joined before it.
abbrev pub all_members : List (List TypeSet) → List (List ℕ)
all_members parts = fold (λ before own. before ++ flat_map (members before) own ∷ []) [] parts

unfoldable pub types_in : List (List TypeSet) → TypeSet → List ℕ
types_in parts set = members (all_members parts) set

-- the types in a set
abbrev pub types_of : Sets → TypeSet → List ℕ
types_of sets set = types_in sets.parts set

-- a single type, or one of so many joined sets
abbrev pub IsBelow : ℕ → TypeSet → Type 0
IsBelow count (One number) = Unit {0}
IsBelow count (Joined number) = number < count

-- a set that is there
abbrev pub IsSet : Sets → TypeSet → Type 0
IsSet sets set = IsBelow (length sets.parts) set

-- The set of an answer is there.
abbrev pub IsWithin : Sets → Option Inside → Type 0
IsWithin sets answer = IfSome answer (λ inside. IsSet sets inside.set)

-- Each set is still there and has the same types.
abbrev pub IsGrown : Sets → Sets → Type 0
IsGrown old new = (set : TypeSet) → IsSet old set → IsSet new set × (types_of new set ≡ types_of old set)
