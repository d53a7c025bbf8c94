-- Why a type is closed. A type has a reason of its own, which is the first that applies to it, or it is closed
-- because it uses a closed type; else it is open.
use Rattle.std.specs.Prelude.{ℕ, zero, suc, ◌≡◌, ◌≢◌, ◌*◌, ◌+◌, ◌&&◌, ◌||◌, not, Bool, true, false, nat_lt, bytes_eq, if◌then◌else◌, List, [], ◌∷◌, ◌++◌, map, filter, length, Some, None, slice_get, option_and_then, is_some, is_none}
use Rattle.std.specs.declared.option.Option.{Option}
use Rattle.std.specs.Option.{option_map_or}
use Rattle.std.specs.List.{list_any, list_all}
use Rattle.nif_schema.specs.Declaration.{Name, Formula, Read, Bad, Field, inherited}
use Rattle.nif_schema.specs.Expression.{Path}
use Rattle.nif_schema.specs.Schema.{Schema, find_block, parent, ancestor, has_block, line}
use Rattle.nif_schema.specs.Uses.{is_own_template, named, what_at, is_struct, is_reference, is_generic, Reaches}
use Rattle.nif_schema.specs.Paths.{paths_of, storage_width, is_number, is_number_array, path_reason}
use Rattle.nif_schema.specs.declared.decls.Leaf.TheVariants as leaf
use Rattle.nif_schema.specs.declared.decls.What.{What}
use Rattle.nif_schema.specs.declared.decls.What.TheVariants.{Basic, Stored}
use Rattle.nif_schema.specs.declared.fields.Bound.{Bound}
use Rattle.nif_schema.specs.declared.fields.Bound.TheVariants as bound
use Rattle.nif_schema.specs.declared.fields.Exact.{Exact}
use Rattle.nif_schema.specs.declared.fields.Exact.TheVariants as exact
use Rattle.nif_schema.specs.declared.members.BitMember.{BitMember}
use Rattle.nif_schema.specs.declared.faults.Closed.{Closed}
use Rattle.nif_schema.specs.declared.faults.Closed.TheVariants.{C0, C1, C2, C3, C4, C7, C8, C9, C10, C11, C12, C13}

-- the first reason of a list of those that may apply
abbrev pub first_reason : List (Option Closed) → Option Closed
first_reason [] = None
first_reason (None ∷ rest) = first_reason rest
first_reason (Some reason ∷ rest) = Some reason

abbrev pub reason_where : Closed → Bool → Option Closed
reason_where reason applies = if applies then Some reason else None

-- C2: it inherits from a name that is no declared block type
unfoldable pub lacks_parent : Schema → ℕ → Bool
lacks_parent schema number =
    is_some (option_and_then (λ d. inherited d.what) (slice_get schema number)) && is_none (parent schema number)

-- C3: The walk of parents doesn't end. It ends where fewer steps lead to no parent than there are declarations.
unfoldable pub has_no_root : Schema → ℕ → Bool
has_no_root schema number = is_some (ancestor schema (length schema) number)

-- C0: one of so many ancestors has no parent where it names one
abbrev pub ancestor_lacks : ℕ → Schema → ℕ → Bool
ancestor_lacks zero schema number = false
ancestor_lacks (suc most) schema number =
    option_map_or (λ above. lacks_parent schema above || ancestor_lacks most schema above) (parent schema number) false

-- C10: a basic that can't be read, or a storage that is no integer
abbrev pub is_unread : Schema → What → Bool
is_unread schema (Basic leaf.Unread) = true
is_unread schema (Stored storage members) = is_none (storage_width schema storage)
is_unread schema _ = false

-- C13: a bit member is bad, or goes past the bits of the storage
abbrev pub is_bad_member : ℕ → BitMember → Bool
is_bad_member width m = m.bad || nat_lt (8 * width) (m.pos + m.width)

abbrev pub has_bad_member : Schema → What → Bool
has_bad_member schema (Stored storage members) =
    option_map_or (λ width. list_any (is_bad_member width) members) (storage_width schema storage) false
has_bad_member schema _ = false

-- A name in a field is that of a declaration, or `#T#` in a struct.
abbrev pub names_type : Schema → Bool → (ℕ → Bool) → Name → Bool
names_type schema in_struct accepts name =
    (in_struct && is_own_template name) || option_map_or accepts (named schema name) false

-- C1: the type is neither `#T#` in a struct nor a declared type other than a block type
abbrev pub kind_reason : Schema → Bool → Field → Option Closed
kind_reason schema in_struct f =
    reason_where C1 (not (names_type schema in_struct (λ number. not (has_block schema number)) f.kind))

-- C7 and C8: A generic struct needs a template, which is `#T#` in a struct or a declared type that isn't generic.
-- The template of a reference, where it has one, is `#T#` in a struct or a declared block type.
abbrev pub generic_template_reason : Schema → Bool → Option Name → Option Closed
generic_template_reason schema in_struct None = Some C7
generic_template_reason schema in_struct (Some name) =
    reason_where C8 (not (names_type schema in_struct (λ number. not (is_generic schema number)) name))

abbrev pub reference_template_reason : Schema → Bool → Option Name → Option Closed
reference_template_reason schema in_struct None = None
reference_template_reason schema in_struct (Some name) =
    reason_where C8 (not (names_type schema in_struct (has_block schema) name))

abbrev pub template_reason : Schema → Bool → Field → Option Closed
template_reason schema in_struct f =
    option_map_or (λ number.
    if is_generic schema number then generic_template_reason schema in_struct f.template
    else if option_map_or is_reference (what_at schema number) false
    then reference_template_reason schema in_struct f.template
    else None) (named schema f.kind) None

-- C11: `since` or `until` is no version
abbrev pub is_bad_bound : Option Bound → Bool
is_bad_bound (Some bound.Bad) = true
is_bad_bound _ = false

-- C12: `onlyT` or `excludeT` names no declared block type
abbrev pub is_no_block : Schema → Option Name → Bool
is_no_block schema name = option_map_or (λ block. is_none (find_block schema block)) name false

-- C4 of `userver` and `userver2`
abbrev pub is_bad_exact : Option Exact → Bool
is_bad_exact (Some exact.Bad) = true
is_bad_exact _ = false

-- C4, C5 and C6: an expression is bad, or one of its paths is, behind these earlier fields
abbrev pub formula_reason : Schema → List Field → Option Formula → Option Closed
formula_reason schema earlier None = None
formula_reason schema earlier (Some Bad) = Some C4
formula_reason schema earlier (Some (Read of)) = first_reason (map (path_reason schema earlier) (paths_of of))

-- C9: the earlier fields of a bare name in `width` are neither all numbers nor all arrays of numbers of one dimension
abbrev pub bare_width_reason : Schema → List Field → Option Closed
bare_width_reason schema fields =
    reason_where C9 (not (list_all (is_number schema) fields || list_all (is_number_array schema) fields))

-- A bare name that an earlier field declares is looked at by C9 alone.
abbrev pub width_reason : Schema → List Field → Option Formula → Option Closed
width_reason schema earlier (Some (Read (Path (name ∷ [])))) =
    if list_any (λ f. bytes_eq name f.name) earlier
    then bare_width_reason schema (filter (λ f. bytes_eq name f.name) earlier)
    else formula_reason schema earlier (Some (Read (Path (name ∷ []))))
width_reason schema earlier width = formula_reason schema earlier width

-- A `width` without a `length` is passed over.
abbrev pub width_where : Option Formula → Option Formula → Option Formula
width_where None width = None
width_where (Some length) width = width

-- the reason that a field gives behind these earlier fields of its line
unfoldable pub field_reason : Schema → Bool → List Field → Field → Option Closed
field_reason schema in_struct earlier f = first_reason (
    kind_reason schema in_struct f
    ∷ template_reason schema in_struct f
    ∷ reason_where C11 (is_bad_bound f.since || is_bad_bound f.until)
    ∷ reason_where C12 (is_no_block schema f.only || is_no_block schema f.exclude)
    ∷ reason_where C4 (is_bad_exact f.user || is_bad_exact f.bs)
    ∷ formula_reason schema earlier f.vercond
    ∷ formula_reason schema earlier f.cond
    ∷ formula_reason schema earlier f.arg
    ∷ formula_reason schema earlier f.length
    ∷ width_reason schema earlier (width_where f.length f.width)
    ∷ [])

-- the first reason of own fields in order, each behind those before it
abbrev pub fields_reason : Schema → Bool → List Field → List Field → Option Closed
fields_reason schema in_struct earlier [] = None
fields_reason schema in_struct earlier (f ∷ fields) =
    first_reason (field_reason schema in_struct earlier f ∷ fields_reason schema in_struct
    (earlier ++ f ∷ []) fields ∷ [])

-- the fields of the ancestors of a declaration, which stand before its own on its line
abbrev pub line_above : Schema → ℕ → List Field
line_above schema number = option_map_or (line schema) (parent schema number) []

-- the own reason of a type: the first that applies
unfoldable pub own_reason : Schema → ℕ → Option Closed
own_reason schema number = option_and_then (λ d. first_reason (
    reason_where C2 (lacks_parent schema number)
    ∷ reason_where C3 (has_no_root schema number)
    ∷ reason_where C0 (ancestor_lacks (length schema) schema number)
    ∷ reason_where C10 (is_unread schema d.what)
    ∷ reason_where C13 (has_bad_member schema d.what)
    ∷ fields_reason schema (is_struct d.what) (line_above schema number) d.fields
    ∷ [])) (slice_get schema number)

-- A walk of uses leads from a type to one that has a reason of its own.
pub record ReachesClosed (schema : Schema) (number : ℕ) : Type 0 where
  pub to : ℕ
  pub walk : Reaches schema number to
  pub closed : own_reason schema to ≢ None

-- A type is open where no walk of uses, also of none, leads to a type that has a reason of its own.
abbrev pub IsOpen : Schema → ℕ → Type 0
IsOpen schema number = (to : ℕ) → Reaches schema number to → own_reason schema to ≡ None

-- Why a type is closed: its own reason, or C0 where it has none and reaches a type that has one.
pub data IsReason (schema : Schema) (number : ℕ) : Option Closed → Type 0 where
  Open : IsOpen schema number → IsReason schema number None
  Own : (reason : Closed) → own_reason schema number ≡ Some reason → IsReason schema number (Some reason)
  Uses : own_reason schema number ≡ None → ReachesClosed schema number → IsReason schema number (Some C0)

-- the reasons of all types, in the order of the schema
pub record AreReasons (schema : Schema) (reasons : List (Option Closed)) : Type 0 where
  pub count : length reasons ≡ length schema
  pub each : (k : ℕ) (reason : Option Closed) → slice_get reasons k ≡ Some reason → IsReason schema k reason
