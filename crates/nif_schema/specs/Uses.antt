-- What the names in a field stand for, and which declarations a type uses.
use Rattle.std.specs.Prelude.{ℕ, ◌&&◌, ◌||◌, Bool, true, false, codes, bytes_eq, if◌then◌else◌, List, [], ◌++◌, Some, None, Contains, flat_map, slice_get, option_and_then, option_to_list}
use Rattle.std.specs.declared.option.Option.{Option}
use Rattle.std.specs.Option.{option_map_or}
use Rattle.std.specs.List.{list_any}
use Rattle.nif_schema.specs.Declaration.{Name, Field}
use Rattle.nif_schema.specs.Schema.{Schema, find, parent, fields_of}
use Rattle.nif_schema.specs.declared.decls.Leaf.TheVariants as leaf
use Rattle.nif_schema.specs.declared.decls.What.{What}
use Rattle.nif_schema.specs.declared.decls.What.TheVariants.{Basic, Struct}

-- `#T#` stands for the template of the struct, and so it names no declaration.
unfoldable pub is_own_template : Name → Bool
is_own_template name = bytes_eq name (codes "#T#")

-- the number of the declaration that a name in a field names
unfoldable pub named : Schema → Name → Option ℕ
named schema name = if is_own_template name then None else find schema name

-- what a declaration of a number declares
abbrev pub what_at : Schema → ℕ → Option What
what_at schema number = option_and_then (λ d. Some d.what) (slice_get schema number)

abbrev pub is_struct : What → Bool
is_struct Struct = true
is_struct _ = false

-- a strong or weak reference
abbrev pub is_reference : What → Bool
is_reference (Basic leaf.Ref) = true
is_reference (Basic leaf.Ptr) = true
is_reference _ = false

-- A struct is generic where one of its fields has `#T#` as its type or template.
unfoldable pub takes_template : Field → Bool
takes_template f = is_own_template f.kind || option_map_or is_own_template f.template false

abbrev pub is_generic : Schema → ℕ → Bool
is_generic schema number =
    option_map_or (λ d. is_struct d.what && list_any takes_template d.fields) (slice_get schema number) false

-- the declaration that the template of a field names
abbrev pub named_template : Schema → Field → Option ℕ
named_template schema f = option_and_then (named schema) f.template

-- A field uses its type and, where that is a generic struct, its template.
abbrev pub uses_of_field : Schema → Field → List ℕ
uses_of_field schema f =
    option_map_or (λ kind. option_to_list (Some kind)
    ++ (if is_generic schema kind then option_to_list (named_template schema f) else [])) (named schema f.kind) []

-- A type uses its parent and what its own fields use.
unfoldable pub uses : Schema → ℕ → List ℕ
uses schema number = option_to_list (parent schema number) ++ flat_map (uses_of_field schema) (fields_of schema number)

-- A walk of none or more uses leads from one declaration to another.
pub data Reaches (schema : Schema) : ℕ → ℕ → Type 0 where
  Here : (number : ℕ) → Reaches schema number number
  Further : (number over to : ℕ) → Contains (uses schema number) over → Reaches schema over to
      → Reaches schema number to
