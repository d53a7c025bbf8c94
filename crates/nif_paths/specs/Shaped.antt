-- What the names of a schema may stand for, as shapes.
use Rattle.std.specs.Prelude.{ℕ, ◌≡◌, ◌<◌, Bool, true, false, if◌then◌else◌, List, [], length, map, Some, None, slice_get, is_none, option_and_then}
use Rattle.std.specs.declared.option.Option.{Option}
use Rattle.std.specs.Option.{option_map_or}
use Rattle.nif_names.specs.declared.shapes.Shape.{Shape}
use Rattle.nif_names.specs.Tables.{Table, held}
use Rattle.nif_schema.specs.Declaration.{Name, Field}
use Rattle.nif_schema.specs.Schema.{Schema}
use Rattle.nif_schema.specs.Uses.{named, what_at, is_generic}
use Rattle.nif_schema.specs.Paths.{Meaning, OfField, OfBits, has_names, is_number, is_number_array, inside_type, fields_named, bits_named}
use Rattle.nif_schema.specs.declared.members.BitMember.{BitMember}

-- a mark for each declaration, whether it is a generic struct
pub record AreMarks (schema : Schema) (marks : List Bool) : Type 0 where
  pub count : length marks ≡ length schema
  pub each : (number : ℕ) → number < length schema → slice_get marks number ≡ Some (is_generic schema number)

-- a declaration whose names may follow in a path
unfoldable pub with_names : Schema → ℕ → Option ℕ
with_names schema number = if option_map_or (has_names schema number) (what_at schema number) false then Some number
    else None

unfoldable pub inner_of : Schema → Field → Option ℕ
inner_of schema f = if is_none f.length then option_and_then (with_names schema) (named schema f.kind) else None

unfoldable pub field_shape : Schema → Field → Shape
field_shape schema f = record { number = is_number schema f; row = is_number_array schema f; inner = inner_of schema f }

abbrev pub bit_shape : Shape
bit_shape = record { number = true; row = false; inner = None }

abbrev pub shape : Schema → Meaning → Shape
shape schema (OfField f) = field_shape schema f
shape schema OfBits = bit_shape

-- what a name means inside the type of this number
unfoldable pub lead : Schema → Name → ℕ → List Meaning
lead schema name number = option_map_or (inside_type schema name number) (what_at schema number) []

-- a table of the names of these fields
abbrev pub HasFields : Schema → List Field → Table → Type 0
HasFields schema fields table = (name : Name) → held table name ≡ map (shape schema) (fields_named name fields)

-- a table of the names inside the type of this number
abbrev pub HasInside : Schema → ℕ → Table → Type 0
HasInside schema number table = (name : Name) → held table name ≡ map (shape schema) (lead schema name number)

-- such a table for each declaration
pub record AreInsides (schema : Schema) (tables : List Table) : Type 0 where
  pub count : length tables ≡ length schema
  pub each : (number : ℕ) (table : Table) → slice_get tables number ≡ Some table → HasInside schema number table

-- a table of the names of these bit members
abbrev pub HasBits : List BitMember → Table → Type 0
HasBits members table = (name : Name) → held table name ≡ map (λ m. bit_shape) (bits_named name members)
