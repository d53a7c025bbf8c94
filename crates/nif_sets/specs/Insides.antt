-- What a name means in all types of a set.
use Rattle.std.specs.Prelude.{ℕ, ◌≡◌, ◌↔◌, Bool, true, false, List, [], ◌∷◌, flat_map, None, Some, is_some, slice_get, Contains}
use Rattle.std.specs.declared.option.Option.{Option}
use Rattle.std.specs.Option.{option_map_or}
use Rattle.std.specs.List.{list_any, list_all}
use Rattle.nif_names.specs.Tables.{Table, held}
use Rattle.nif_names.specs.Shapes.{inners}
use Rattle.nif_names.specs.declared.shapes.Shape.{Shape}
use Rattle.nif_sets.specs.Sets.{Sets, Known, types_of}
use Rattle.nif_sets.specs.declared.sets.TypeSet.{TypeSet}
use Rattle.nif_sets.specs.declared.sets.Inside.{Inside}
use Rattle.nif_sets.specs.declared.meanings.Meaning.{Meaning}

abbrev pub is_empty : {X : Type 0} → List X → Bool
is_empty [] = true
is_empty (x ∷ xs) = false

-- the shapes of a name in a type, by the table of the type
abbrev pub held_at : List Table → List ℕ → ℕ → List Shape
held_at tables name number = option_map_or (λ table. held table name) (slice_get tables number) []

-- whether one of these types lacks a name
abbrev pub is_lacking : List Table → List ℕ → List ℕ → Bool
is_lacking tables name types = list_any (λ number. is_empty (held_at tables name number)) types

-- the shapes of a name in these types
abbrev pub shapes_in : List Table → List ℕ → List ℕ → List Shape
shapes_in tables name types = flat_map (held_at tables name) types

-- A name means something in each of these types: whether all that it means are numbers, whether names may follow all of
-- it, and the types whose names may follow.
pub record Means (tables : List Table) (name types : List ℕ) (numbers inner : Bool) (inside : List ℕ) : Type 0 where
  pub found : is_lacking tables name types ≡ false
  pub all_numbers : numbers ≡ list_all (λ s. s.number) (shapes_in tables name types)
  pub all_inner : inner ≡ list_all (λ s. is_some s.inner) (shapes_in tables name types)
  pub same_types : (number : ℕ) → Contains inside number ↔ Contains (inners (shapes_in tables name types)) number

-- what a name means in all types of a set, or None where one of them lacks it
abbrev pub IsInside : List Table → Sets → TypeSet → List ℕ → Option Inside → Type 0
IsInside tables sets set name None = is_lacking tables name (types_of sets set) ≡ true
IsInside tables sets set name (Some inside) =
    Means tables name (types_of sets set) inside.numbers inside.inner (types_of sets inside.set)

-- Whatever is known is so.
abbrev pub AreKnown : List Table → Sets → Type 0
AreKnown tables sets =
    (known : Known) → Contains sets.known known → IsInside tables sets known.set known.name known.answer

-- what a name means in all of these types, or None where one of them lacks it
abbrev pub IsMeaning : List Table → List ℕ → List ℕ → Option Meaning → Type 0
IsMeaning tables types name None = is_lacking tables name types ≡ true
IsMeaning tables types name (Some meaning) = Means tables name types meaning.numbers meaning.inner meaning.types.items
