-- Types on a stack, and what was found of the first of them.
use Rattle.std.specs.Prelude.{ℕ, ◌≡◌, ◌<◌, ◌≤◌, List, [], Some, length, take, slice_get}

-- What was found under a key of all types that were there, or of the first of them: so many.
pub record Mark : Type 0 where
  pub key : List ℕ
  pub count : ℕ
  pub stop : ℕ

-- types in order, for each how many marks there were when it was put there, and all marks
pub record Marked : Type 0 where
  pub types : List ℕ
  pub since : List ℕ
  pub marks : List Mark

-- The first so many types are there, and have been since the mark of a place was set.
pub record AreBefore (m : Marked) (count at : ℕ) : Type 0 where
  pub within : count ≤ length m.types
  pub before : (place : ℕ) → place < count → (since : ℕ) × (slice_get m.since place ≡ Some since) × (since ≤ at)

-- A mark of a place tells what was found under a key of so many types, which are there since.
pub record Holds (m : Marked) (key : List ℕ) (at count stop : ℕ) : Type 0 where
  pub mark : slice_get m.marks at ≡ Some (record { key = key; count = count; stop = stop })
  pub there : AreBefore m count at

-- This was found under a key of these types, which are the first on the stack and have been there since.
pub record IsFound (m : Marked) (key types : List ℕ) (stop : ℕ) : Type 0 where
  pub at : ℕ
  pub count : ℕ
  pub holds : Holds m key at count stop
  pub first : types ≡ take count m.types

abbrev pub none_marked : Marked
none_marked = record { types = []; since = []; marks = [] }
