-- An order of declarations along inheritance.
use Rattle.std.specs.Prelude.{ℕ, ◌≡◌, ◌<◌, nat_eq, List, [], ◌∷◌, length, None, Some, Contains, slice_get, Vec}
use Rattle.std.specs.declared.alloc.Global.{Global}
use Rattle.std.specs.declared.option.Option.{Option}
use Rattle.std.specs.List.{IsDistinct}
use Rattle.nif_schema.specs.Schema.{Schema, parent, ancestor, IsA}
use Rattle.nif_reasons.specs.declared.visits.Children.{Children}

-- It may come right behind another: where it has a parent, that is the one before it, or an ancestor of that one.
abbrev pub IsNext : Schema → Option ℕ → ℕ → Type 0
IsNext schema None number = parent schema number ≡ None
IsNext schema (Some before) number = (above : ℕ) → parent schema number ≡ Some above → IsA schema before above

-- Each one may come right behind the one before it. So each comes behind its parent, with none in between that doesn't
-- inherit from the parent, too.
abbrev pub AreInOrder : Schema → Option ℕ → List ℕ → Type 0
AreInOrder schema before [] = Unit {0}
AreInOrder schema before (number ∷ numbers) = IsNext schema before number × AreInOrder schema (Some number) numbers

-- a declaration whose walk of parents ends
pub record IsRooted (schema : Schema) (number : ℕ) : Type 0 where
  pub within : number < length schema
  pub ends : ancestor schema (length schema) number ≡ None

-- Each declaration at most once, each behind its parent, and exactly those whose walk of parents ends.
pub record AreVisits (schema : Schema) (order : List ℕ) : Type 0 where
  pub once : IsDistinct nat_eq order
  pub next : AreInOrder schema None order
  pub all : (number : ℕ) → IsRooted schema number → Contains order number
  pub only : (number : ℕ) → Contains order number → IsRooted schema number

-- no number twice
abbrev pub AreDifferent : List ℕ → Type 0
AreDifferent [] = Unit {0}
AreDifferent (number ∷ numbers) = (Contains numbers number → ⊥) × AreDifferent numbers

-- those of the first so many declarations that have this parent, or none, each once
pub record AreBelow (schema : Schema) (above : Option ℕ) (most : ℕ) (numbers : List ℕ) : Type 0 where
  pub within : (number : ℕ) → Contains numbers number → number < most
  pub child : (number : ℕ) → Contains numbers number → parent schema number ≡ above
  pub all : (number : ℕ) → number < most → parent schema number ≡ above → Contains numbers number
  pub once : AreDifferent numbers

-- the children of each declaration among the first so many
pub record AreChildren (schema : Schema) (most : ℕ) (below : List (Vec ℕ Global)) : Type 0 where
  pub count : length below ≡ length schema
  pub each : (above : ℕ) (numbers : Vec ℕ Global) → slice_get below above ≡ Some numbers
      → AreBelow schema (Some above) most numbers.items

-- and those without a parent beside them
pub record AreParted (schema : Schema) (most : ℕ) (children : Children) : Type 0 where
  pub roots : AreBelow schema None most children.roots.items
  pub below : AreChildren schema most children.below.items
