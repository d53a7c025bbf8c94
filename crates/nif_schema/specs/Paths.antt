-- What a path of names in an expression leads to.
use Rattle.std.specs.Prelude.{ℕ, ◌&&◌, ◌||◌, not, Bool, true, false, codes, bytes_eq, if◌then◌else◌, List, [], ◌∷◌, ◌++◌, map, filter, flat_map, Some, None, option_and_then, is_some, is_none}
use Rattle.std.specs.declared.option.Option.{Option}
use Rattle.std.specs.Option.{option_map_or}
use Rattle.std.specs.List.{list_any, list_all}
use Rattle.nif_schema.specs.Declaration.{Name, Field}
use Rattle.nif_schema.specs.Expression.{Tree, Number, Arg, Path, Not, Two}
use Rattle.nif_schema.specs.Schema.{Schema, find, fields_of}
use Rattle.nif_schema.specs.Uses.{named, what_at, is_generic}
use Rattle.nif_schema.specs.declared.decls.Leaf.TheVariants as leaf
use Rattle.nif_schema.specs.declared.decls.What.{What}
use Rattle.nif_schema.specs.declared.decls.What.TheVariants.{Basic, Stored, Struct}
use Rattle.nif_schema.specs.declared.members.BitMember.{BitMember}
use Rattle.nif_schema.specs.declared.faults.Closed.{Closed}
use Rattle.nif_schema.specs.declared.faults.Closed.TheVariants.{C5, C6}

-- the paths of an expression, from left to right
abbrev pub paths_of : Tree → List (List Name)
paths_of (Number value) = []
paths_of Arg = []
paths_of (Path names) = names ∷ []
paths_of (Not of) = paths_of of
paths_of (Two op left right) = paths_of left ++ paths_of right

-- The bytes of an integer that may store an enum, bitflags or bitfield: those of a number that is no `bool` and no
-- float.
abbrev pub integer_width : What → Option ℕ
integer_width (Basic (leaf.Num width signed little false)) = Some width
integer_width _ = None

-- the bytes of the basic that a stored type names as its storage
unfoldable pub storage_width : Schema → Option Name → Option ℕ
storage_width schema storage =
    option_and_then integer_width (option_and_then (what_at schema) (option_and_then (find schema) storage))

-- Numbers are the integers, `bool`, and what is stored as an integer.
abbrev pub is_number_type : Schema → What → Bool
is_number_type schema (Basic (leaf.Num width signed little float)) = not float
is_number_type schema (Basic leaf.Bool) = true
is_number_type schema (Stored storage members) = is_some (storage_width schema storage)
is_number_type schema _ = false

-- the type of a field, where a declaration is named
abbrev pub type_of : Schema → Field → Option What
type_of schema f = option_and_then (what_at schema) (named schema f.kind)

-- a field of numbers, in an array or not
abbrev pub has_numbers : Schema → Field → Bool
has_numbers schema f = option_map_or (is_number_type schema) (type_of schema f) false

-- a number and no array
abbrev pub is_number : Schema → Field → Bool
is_number schema f = is_none f.length && has_numbers schema f

-- an array of numbers, of one dimension
abbrev pub is_number_array : Schema → Field → Bool
is_number_array schema f = is_some f.length && (is_none f.width && has_numbers schema f)

-- What a name may mean: a field, or a member of a bitfield.
pub data Meaning : Type 0 where
  OfField : (f : Field) → Meaning
  OfBits : Meaning

-- what may stand at the end of a path
abbrev pub ends_path : Schema → Meaning → Bool
ends_path schema (OfField f) = is_number schema f
ends_path schema OfBits = true

-- a type that has names inside: a struct that isn't generic, or a bitfield with members
abbrev pub has_names : Schema → ℕ → What → Bool
has_names schema number Struct = not (is_generic schema number)
has_names schema number (Stored storage (m ∷ members)) = true
has_names schema number _ = false

-- what may stand before another name of a path
abbrev pub goes_on : Schema → Meaning → Bool
goes_on schema (OfField f) = is_none f.length
    && option_map_or (λ number. option_map_or (has_names schema number) (what_at schema number) false)
    (named schema f.kind) false
goes_on schema OfBits = false

abbrev pub fields_named : Name → List Field → List Meaning
fields_named name fields = map (λ f. OfField f) (filter (λ f. bytes_eq name f.name) fields)

abbrev pub bits_named : Name → List BitMember → List Meaning
bits_named name members = if list_any (λ m. bytes_eq name m.name) members then OfBits ∷ [] else []

-- what the next name means inside a field of this type
abbrev pub inside_type : Schema → Name → ℕ → What → List Meaning
inside_type schema name number Struct = fields_named name (fields_of schema number)
inside_type schema name number (Stored storage members) = bits_named name members
inside_type schema name number _ = []

abbrev pub inside : Schema → Name → Meaning → List Meaning
inside schema name (OfField f) =
    option_map_or (λ number. option_map_or (inside_type schema name number) (what_at schema number) [])
    (named schema f.kind) []
inside schema name OfBits = []

abbrev pub is_empty : {X : Type 0} → List X → Bool
is_empty [] = true
is_empty (x ∷ xs) = false

-- The reason that the names after a first one give, whose meanings are these. At each name all its meanings are
-- looked at together: is one of the wrong kind for its place, and does one lack the next name.
abbrev pub rest_reason : Schema → List Meaning → List Name → Option Closed
rest_reason schema meanings [] = if list_all (ends_path schema) meanings then None else Some C6
rest_reason schema meanings (name ∷ names) =
    if list_all (goes_on schema) meanings then
    if list_any (λ m. is_empty (inside schema name m)) meanings then Some C5
    else rest_reason schema (flat_map (inside schema name) meanings) names
    else Some C6

-- The names of the header, which stand where no earlier field has the first name.
unfoldable pub is_header_path : List Name → Bool
is_header_path (first ∷ []) = bytes_eq first (codes "Version")
    || (bytes_eq first (codes "User Version") || bytes_eq first (codes "User Version 2"))
is_header_path (first ∷ second ∷ []) = bytes_eq first (codes "BS Header") && bytes_eq second (codes "BS Version")
is_header_path _ = false

-- the reason that a path gives behind these earlier fields of a line
abbrev pub path_reason : Schema → List Field → List Name → Option Closed
path_reason schema earlier [] = Some C5
path_reason schema earlier (first ∷ names) =
    elim (fields_named first earlier) [
      | [] ↦ if is_header_path (first ∷ names) then None else Some C5
      | m ∷ ms ↦ rest_reason schema (m ∷ ms) names
    ]
