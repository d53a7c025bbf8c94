-- What is kept of sets.
use Rattle.std.specs.Prelude.{ℕ, ◌≡◌, List, Some, length, slice_get, IfSome, Contains}
use Rattle.std.specs.declared.option.Option.{Option}
use Rattle.nif_sets.specs.Sets.{Known, IsBelow, size}
use Rattle.nif_sets.specs.declared.sets.TypeSet.{TypeSet}
use Rattle.nif_sets.specs.declared.sets.Inside.{Inside}
use Rattle.nif_sets.specs.declared.sets.Key.{Key}

abbrev pub plain_known : Key × Option Inside → Known
plain_known entry = record { set = entry.0.set; name = entry.0.name.items; answer = entry.1 }

-- The parts of each joined set are single types or were joined before it.
abbrev pub AreBefore : List (List TypeSet) → Type 0
AreBefore parts =
    (place : ℕ) (own : List TypeSet) (part : TypeSet) → slice_get parts place ≡ Some own → Contains own part
    → IsBelow place part

-- Known answers are of sets that are there, and have sets that are there.
abbrev pub AreWithin : ℕ → List Known → Type 0
AreWithin count known =
    (k : Known) → Contains known k → IsBelow count k.set × IfSome k.answer (λ inside. IsBelow count inside.set)

pub record IsKept (parts : List (List TypeSet)) (known : List Known) (count : ℕ) : Type 0 where
  pub before : AreBefore parts
  pub within : AreWithin (length parts) known
  pub counted : count ≡ size (record { parts = parts; known = known })
