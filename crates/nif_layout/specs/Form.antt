-- What the value of a field is: one value, a run of bytes, or a row of values.
use Rattle.std.specs.Prelude.{ℕ, zero, suc, Bool, true, false, ◌&&◌, codes, bytes_eq, if◌then◌else◌, is_some, slice_get, option_and_then, None, Some, List, [], ◌∷◌}
use Rattle.std.specs.declared.option.Option.{Option}
use Rattle.std.specs.Option.{option_map, option_map_or}
use Rattle.std.specs.List.{list_any}
use Rattle.nif_base.specs.Node as node
use Rattle.nif_base.specs.Node.{Node, Members, End, Here, Absent}
use Rattle.nif_schema.specs.Declaration.{Name, Formula, Read, Field}
use Rattle.nif_schema.specs.Expression.{Path}
use Rattle.nif_schema.specs.Schema.{Schema, find}
use Rattle.nif_schema.specs.Uses.{is_own_template}
use Rattle.nif_schema.specs.declared.decls.What.{What}
use Rattle.nif_schema.specs.declared.decls.What.TheVariants.{Basic}
use Rattle.nif_layout.specs.Context.{Context}
use Rattle.nif_layout.specs.Earlier.{Env, is_named, last_present}
use Rattle.nif_layout.specs.PathValue.{is_signed, extended, number_in}
use Rattle.nif_layout.specs.Present.{formula_value}
use Rattle.nif_layout.specs.Kind.{Kind, Unknown, kind_of}

-- The items of a row are said by their places, so that a row of rows may have another length at each place.
pub data Form : Type 0 where
  One : (kind : Kind) → Form
  Run : (count : ℕ) → Form
  Row : (count : ℕ) → (item : ℕ → Form) → Form

-- the declaration that a name of a field names, where `#T#` stands for the template of its struct
abbrev pub replaced : Schema → Option ℕ → Name → Option ℕ
replaced schema template name = if is_own_template name then template else find schema name

-- An array of one of these basics is a run of bytes.
abbrev pub run_names : List Name
run_names = codes "byte" ∷ codes "sbyte" ∷ codes "char" ∷ codes "normbyte" ∷ []

abbrev pub is_basic : What → Bool
is_basic (Basic own) = true
is_basic _ = false

abbrev pub is_run : Schema → ℕ → Bool
is_run schema number =
    option_map_or (λ d. is_basic d.what && list_any (bytes_eq d.name) run_names) (slice_get schema number) false

-- the node of item i of a row
abbrev pub item_at : Members → ℕ → Option Node
item_at End i = None
item_at (Here item rest) zero = Some item
item_at (Here item rest) (suc i) = item_at rest i
item_at (Absent rest) i = None

-- the number of item i of an array, 0 where there is no such item
abbrev pub number_at_item : Bool → ℕ → Node → ℕ
number_at_item signed i (node.Bytes bytes) = option_map_or (extended signed 1) (slice_get bytes i) 0
number_at_item signed i (node.Row items) = option_map_or (number_in signed) (item_at items i) 0
number_at_item signed i _ = 0

-- the last earlier field of a name, present or absent, is an array
abbrev pub is_array : Name → Env → Bool
is_array name [] = false
is_array name (earlier ∷ before) = if is_named name earlier then is_some earlier.field.length else is_array name before

-- the array that a `width` is the bare name of
abbrev pub array_name : Env → Formula → Option Name
array_name E (Read (Path (name ∷ []))) = if is_array name E then Some name else None
array_name E _ = None

-- the length of row i: item i of the last present array of the bare name that is `width`, else the value of `width`
abbrev pub width_at : Schema → Context → Env → ℕ → Formula → ℕ → ℕ
width_at schema C E arg width i =
    option_map_or (λ name. option_map_or (λ at. number_at_item (is_signed schema at.0) i at.1) (last_present name E) 0)
    (array_name E width) (formula_value schema C E arg width)

-- a row of n values of a kind, or a run of n bytes
abbrev pub row_of : Bool → Kind → ℕ → Form
row_of true kind n = Run n
row_of false kind n = Row n (λ i. One kind)

-- A `width` without a `length` is passed over.
abbrev pub sized : Option ℕ → Option (ℕ → ℕ) → Bool → Kind → Form
sized None width run kind = One kind
sized (Some n) None run kind = row_of run kind n
sized (Some n) (Some width) run kind = Row n (λ i. row_of run kind (width i))

-- what one value of a field is
abbrev pub field_kind : Schema → Context → Option ℕ → ℕ → Env → Field → Kind
field_kind schema C template arg E f =
    option_map_or (λ number. kind_of schema C number (option_and_then (replaced schema template) f.template)
    (option_map_or (formula_value schema C E arg) f.arg 0))
    (replaced schema template f.kind) Unknown

-- what the value of a field is, behind these earlier fields, in a group under this template and with this argument
abbrev pub form_of : Schema → Context → Option ℕ → ℕ → Env → Field → Form
form_of schema C template arg E f =
    sized (option_map (formula_value schema C E arg) f.length) (option_map (width_at schema C E arg) f.width)
    (option_map_or (is_run schema) (replaced schema template f.kind) false) (field_kind schema C template arg E f)
