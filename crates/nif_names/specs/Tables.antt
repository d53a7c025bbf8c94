-- Tables of names, with a stack of shapes under each.
use Rattle.std.specs.Prelude.{ℕ, List, [], ◌∷◌, bytes_eq, if◌then◌else◌}
use Rattle.nif_names.specs.declared.shapes.Shape.{Shape}
use Rattle.nif_names.specs.Marks.{Marked, none_marked}
use Rattle.nif_names.specs.Shapes.{Stack}

-- names, and the stack of each at its place
pub record Table : Type 0 where
  pub names : List (List ℕ)
  pub stacks : List Stack

abbrev pub no_stack : Stack
no_stack = record { shapes = []; kinds = none_marked }

-- the stack of the first name that is this one
abbrev pub stack_of : List ℕ → List (List ℕ) → List Stack → Stack
stack_of name (n ∷ names) (s ∷ stacks) = if bytes_eq name n then s else stack_of name names stacks
stack_of name _ _ = no_stack

-- the shapes under a name, of which there are none where the name isn't in the table
unfoldable pub held : Table → List ℕ → List Shape
held table name = (stack_of name table.names table.stacks).shapes

-- and their inner types, with marks
unfoldable pub kinds : Table → List ℕ → Marked
kinds table name = (stack_of name table.names table.stacks).kinds
