-- Marks on the declarations of a schema, by their numbers.
use Rattle.std.specs.Prelude.{ℕ, suc, ◌≡◌, Bool, true, false, List, [], ◌∷◌, Some, slice_get}
use Rattle.nif_schema.specs.Schema.{Schema}
use Rattle.nif_schema.specs.Uses.{Reaches}

-- the declaration of a number is marked
abbrev pub IsMarked : List Bool → ℕ → Type 0
IsMarked marks number = slice_get marks number ≡ Some true

-- how many aren't
abbrev pub unmarked : List Bool → ℕ
unmarked [] = 0
unmarked (true ∷ marks) = unmarked marks
unmarked (false ∷ marks) = suc (unmarked marks)

-- A walk of uses, also of none, leads to a declaration that is marked.
pub record ReachesMarked (schema : Schema) (marks : List Bool) (number : ℕ) : Type 0 where
  pub to : ℕ
  pub walk : Reaches schema number to
  pub at_end : IsMarked marks to
