-- A schema is a list of declarations with different names. The number of a declaration is its place in the list,
-- counted from 0.
use Rattle.std.specs.Prelude.{ℕ, zero, suc, ◌≡◌, ◌^◌, ◌<◌, Bool, false, ◌||◌, nat_eq, List, [], ◌++◌, length, map, All, Some, None, position, slice_get, bytes_eq, option_and_then, if◌then◌else◌}
use Rattle.std.specs.declared.option.Option.{Option}
use Rattle.std.specs.Option.{option_map_or}
use Rattle.std.specs.List.{IsDistinct}
use Rattle.nif_schema.specs.Declaration.{Name, Field, Declaration, is_block, inherited}
use Rattle.nif_schema.specs.Basic.{HasItsLeaf}

abbrev pub Schema : Type 0
Schema = List Declaration

-- the number of the declaration of a name
abbrev pub find : Schema → Name → Option ℕ
find schema name = position (λ d. bytes_eq name d.name) schema

-- the own fields of a declaration
abbrev pub fields_of : Schema → ℕ → List Field
fields_of schema number = option_map_or (λ d. d.fields) (slice_get schema number) []

-- whether a block type has this number
abbrev pub has_block : Schema → ℕ → Bool
has_block schema number = option_map_or (λ d. is_block d.what) (slice_get schema number) false

-- the number of the declaration of a name, where that is a block type
abbrev pub find_block : Schema → Name → Option ℕ
find_block schema name =
    option_and_then (λ number. if has_block schema number then Some number else None) (find schema name)

-- the parent of a declaration: the declared block type that it inherits from, if there is one
unfoldable pub parent : Schema → ℕ → Option ℕ
parent schema number =
    option_and_then (find_block schema) (option_and_then (λ d. inherited d.what) (slice_get schema number))

-- where so many steps lead, each from a block type to its parent
abbrev pub ancestor : Schema → ℕ → ℕ → Option ℕ
ancestor schema zero number = Some number
ancestor schema (suc steps) number = option_and_then (parent schema) (ancestor schema steps number)

-- the walk of parents ends: after so many steps there is no parent
abbrev pub Ends : Schema → ℕ → Type 0
Ends schema number = (steps : ℕ) × (ancestor schema steps number ≡ None)

-- `of` is the declaration itself or an ancestor of it
abbrev pub IsA : Schema → ℕ → ℕ → Type 0
IsA schema number of = (steps : ℕ) × (ancestor schema steps number ≡ Some of)

-- The same as a function, over at most so many steps. An ancestor is fewer steps away than there are declarations.
abbrev pub is_a_within : ℕ → Schema → ℕ → ℕ → Bool
is_a_within zero schema number of = nat_eq number of
is_a_within (suc most) schema number of =
    nat_eq number of || option_map_or (λ above. is_a_within most schema above of) (parent schema number) false

abbrev pub is_a : Schema → ℕ → ℕ → Bool
is_a schema number of = is_a_within (length schema) schema number of

-- The line of fields of a declaration: the line of its parent, if it has one, and then its own fields.
pub data IsLine (schema : Schema) : ℕ → List Field → Type 0 where
  Root : (number : ℕ) → parent schema number ≡ None → IsLine schema number (fields_of schema number)
  Child : (number above : ℕ) (line : List Field)
      → parent schema number ≡ Some above → IsLine schema above line
      → IsLine schema number (line ++ fields_of schema number)

-- The same as a function, over at most so many declarations. A walk of parents that ends meets each declaration at
-- most once, so the number of declarations is enough.
abbrev pub line_within : ℕ → Schema → ℕ → List Field
line_within zero schema number = []
line_within (suc most) schema number =
    option_map_or (line_within most schema) (parent schema number) [] ++ fields_of schema number

abbrev pub line : Schema → ℕ → List Field
line schema number = line_within (length schema) schema number

-- What every schema of the program is.
pub record IsSchema (schema : Schema) : Type 0 where
  pub names : IsDistinct bytes_eq (map (λ d. d.name) schema)
  pub leaves : All HasItsLeaf schema
  pub limit : length schema < 2 ^ 32
