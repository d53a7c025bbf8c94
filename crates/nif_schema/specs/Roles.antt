-- The roles of the header and the footer: nine rules that a schema must keep for its files to be read at all. They
-- are tried in their order, and the first that fails is told.
use Rattle.std.specs.Prelude.{ℕ, zero, suc, ◌≡◌, ◌==◌, ◌&&◌, ◌||◌, not, Bool, true, false, nat_lt, nat_le, codes, bytes_eq, List, [], ◌∷◌, filter, drop, if◌then◌else◌, Some, None, IsTrue, slice_get, option_and_then, is_some, is_none}
use Rattle.std.specs.declared.option.Option.{Option}
use Rattle.std.specs.Option.{option_map_or}
use Rattle.std.specs.List.{list_any, list_all}
use Rattle.nif_base.specs.Limits.{lowest_version, highest_version}
use Rattle.nif_schema.specs.Declaration.{Name, Formula, Read, Bad, Field}
use Rattle.nif_schema.specs.Expression.{Path}
use Rattle.nif_schema.specs.Schema.{Schema, find, fields_of}
use Rattle.nif_schema.specs.Uses.{named, what_at, is_struct, is_generic, Reaches}
use Rattle.nif_schema.specs.Paths.{paths_of}
use Rattle.nif_schema.specs.Reasons.{IsOpen}
use Rattle.nif_schema.specs.declared.decls.Leaf.TheVariants as leaf
use Rattle.nif_schema.specs.declared.decls.What.{What}
use Rattle.nif_schema.specs.declared.decls.What.TheVariants.{Basic, Stored, Struct}
use Rattle.nif_schema.specs.declared.fields.Bound.{Bound}
use Rattle.nif_schema.specs.declared.fields.Bound.TheVariants as bound

-- ---- fields of a name

-- the fields of Header
unfoldable pub header_fields : Schema → List Field
header_fields schema = option_map_or (fields_of schema) (find schema (codes "Header")) []

abbrev pub is_named : Name → Field → Bool
is_named name f = bytes_eq name f.name

unfoldable pub of_name : Name → List Field → List Field
of_name name fields = filter (is_named name) fields

-- the fields before the first of a name
abbrev pub before_name : Name → List Field → List Field
before_name name [] = []
before_name name (f ∷ fields) = if is_named name f then [] else f ∷ before_name name fields

-- there is one field, and it passes
abbrev pub is_one : (Field → Bool) → List Field → Bool
is_one passes [] = false
is_one passes (f ∷ []) = passes f
is_one passes (f ∷ g ∷ fields) = false

-- there is none, or one that passes
abbrev pub is_at_most_one : (Field → Bool) → List Field → Bool
is_at_most_one passes [] = true
is_at_most_one passes (f ∷ []) = passes f
is_at_most_one passes (f ∷ g ∷ fields) = false

-- no field of this name stands before `Version`
unfoldable pub is_after_version : Name → List Field → Bool
is_after_version name fields = not (list_any (is_named name) (before_name (codes "Version") fields))

-- ---- attributes

abbrev pub is_array : Field → Bool
is_array f = is_some f.length

abbrev pub has_no_condition : Field → Bool
has_no_condition f =
    is_none f.cond && (is_none f.vercond && (is_none f.user && (is_none f.bs && (is_none f.only && is_none f.exclude))))

-- no attribute but the name, the type, and perhaps `length`, `since` and `until`
abbrev pub is_plain : Field → Bool
is_plain f = is_none f.template && (is_none f.arg && (is_none f.width && has_no_condition f))

abbrev pub has_no_bounds : Field → Bool
has_no_bounds f = is_none f.since && is_none f.until

-- no attribute but the name and the type
abbrev pub is_bare : Field → Bool
is_bare f = is_plain f && (is_none f.length && has_no_bounds f)

-- the accepted versions are 4.0.0.2 to 20.2.0.7
abbrev pub lowest : ℕ
lowest = lowest_version

abbrev pub highest : ℕ
highest = highest_version

-- A bound holds for all accepted versions.
abbrev pub begins_by_lowest : Option Bound → Bool
begins_by_lowest None = true
begins_by_lowest (Some bound.Bad) = false
begins_by_lowest (Some (bound.Read version)) = nat_le version.number lowest

abbrev pub lasts_to_highest : Option Bound → Bool
lasts_to_highest None = true
lasts_to_highest (Some bound.Bad) = false
lasts_to_highest (Some (bound.Read version)) = nat_le highest version.number

-- no attribute but the name, the type, and a `since` and `until` that hold for all accepted versions
abbrev pub is_always : Field → Bool
is_always f = is_plain f && (is_none f.length && (begins_by_lowest f.since && lasts_to_highest f.until))

-- A bound holds for no accepted version.
abbrev pub begins_above_highest : Option Bound → Bool
begins_above_highest None = false
begins_above_highest (Some bound.Bad) = false
begins_above_highest (Some (bound.Read version)) = nat_lt highest version.number

abbrev pub ends_below_lowest : Option Bound → Bool
ends_below_lowest None = false
ends_below_lowest (Some bound.Bad) = false
ends_below_lowest (Some (bound.Read version)) = nat_lt version.number lowest

abbrev pub is_never : Field → Bool
is_never f = ends_below_lowest f.until || begins_above_highest f.since

-- the length is the bare name of a field
abbrev pub is_bare_name : Name → Option Formula → Bool
is_bare_name name (Some (Read (Path (first ∷ [])))) = bytes_eq first name
is_bare_name name _ = false

-- an array of that length, without `width` and `arg`
abbrev pub has_length : Name → Field → Bool
has_length name f = is_bare_name name f.length && (is_none f.width && is_none f.arg)

-- ---- types

abbrev pub is_basic : What → Bool
is_basic (Basic of) = true
is_basic _ = false

-- the type is the basic of this name, or the struct of this name
abbrev pub declares : Schema → (What → Bool) → Name → Bool
declares schema kind name = option_map_or kind (option_and_then (what_at schema) (find schema name)) false

unfoldable pub is_of_basic : Schema → Name → Field → Bool
is_of_basic schema name f = bytes_eq f.kind name && declares schema is_basic name

unfoldable pub is_of_struct : Schema → Name → Field → Bool
is_of_struct schema name f = bytes_eq f.kind name && declares schema is_struct name

-- a number of one byte, not signed; an enum, bitflags or bitfield is as its storage is
abbrev pub is_byte : What → Bool
is_byte (Basic (leaf.Num width signed little float)) = (width == 1) && not (signed || float)
is_byte _ = false

abbrev pub is_stored_byte : Schema → What → Bool
is_stored_byte schema (Basic of) = is_byte (Basic of)
is_stored_byte schema (Stored storage members) = option_map_or (declares schema is_byte) storage false
is_stored_byte schema _ = false

unfoldable pub is_of_byte : Schema → Field → Bool
is_of_byte schema f =
    option_map_or (is_stored_byte schema) (option_and_then (what_at schema) (named schema f.kind)) false

-- a basic that refers to a block or to a string of the header
abbrev pub refers : What → Bool
refers (Basic leaf.Ref) = true
refers (Basic leaf.Ptr) = true
refers (Basic leaf.Text) = true
refers _ = false

-- ---- the rules; where `fields` are spoken of, those are the fields of Header

-- The declaration of this name is a struct that takes no template and is open.
pub record IsRoot (schema : Schema) (name : Name) (number : ℕ) : Type 0 where
  pub found : find schema name ≡ Some number
  pub declared : what_at schema number ≡ Some Struct
  pub single : is_generic schema number ≡ false
  pub opens : IsOpen schema number

-- 1. `Header` and `Footer` are declared structs that take no template, and both are open.
pub record HasRoots (schema : Schema) : Type 0 where
  pub header : ℕ
  pub footer : ℕ
  pub is_header : IsRoot schema (codes "Header") header
  pub is_footer : IsRoot schema (codes "Footer") footer

-- 2. Header begins with `Header String` of the basic `HeaderString`, with no other attribute.
unfoldable pub has_line : Schema → List Field → Bool
has_line schema fields = option_map_or (λ f.
    is_named (codes "Header String") f && (is_of_basic schema (codes "HeaderString") f && is_bare f))
    (slice_get fields 0) false

-- 3. Header has one `Version` of the basic `FileVersion`, present in all accepted versions, with no other attribute
-- than `since` and `until`. What stands behind the line and before it is present in no accepted version.
unfoldable pub has_version : Schema → List Field → Bool
has_version schema fields =
    is_one (λ f. is_of_basic schema (codes "FileVersion") f && is_always f) (of_name (codes "Version") fields)
    && list_all is_never (before_name (codes "Version") (drop 1 fields))

-- 4. Header has one `Num Blocks` of the basic `ulittle32`, after `Version`, present in all accepted versions, with no
-- other attribute than `since` and `until`.
unfoldable pub has_count : Schema → List Field → Bool
has_count schema fields =
    is_one (λ f. is_of_basic schema (codes "ulittle32") f && is_always f) (of_name (codes "Num Blocks") fields)
    && is_after_version (codes "Num Blocks") fields

-- 5. `Endian Type`, `User Version`, `User Version 2` and `BS Header` stand at most once each, after `Version`, and are
-- no arrays. The first is a number of one byte, not signed; the two user versions are of the basic `ulittle32`; `BS
-- Header` is a struct that takes no template, with one field `BS Version` of the basic `ulittle32`, no array. It
-- doesn't stand beside `User Version 2`.
abbrev pub is_once_behind : Name → (Field → Bool) → List Field → Bool
is_once_behind name passes fields =
    is_at_most_one (λ f. not (is_array f) && passes f) (of_name name fields) && is_after_version name fields

abbrev pub has_bs_version : Schema → ℕ → Bool
has_bs_version schema number =
    option_map_or is_struct (what_at schema number) false
    && (not (is_generic schema number)
    && is_one (λ f. is_of_basic schema (codes "ulittle32") f && not (is_array f))
    (of_name (codes "BS Version") (fields_of schema number)))

unfoldable pub is_bs_header : Schema → Field → Bool
is_bs_header schema f = option_map_or (has_bs_version schema) (named schema f.kind) false

unfoldable pub has_user_versions : Schema → List Field → Bool
has_user_versions schema fields =
    is_once_behind (codes "Endian Type") (is_of_byte schema) fields
    && (is_once_behind (codes "User Version") (is_of_basic schema (codes "ulittle32")) fields
    && (is_once_behind (codes "User Version 2") (is_of_basic schema (codes "ulittle32")) fields
    && (is_once_behind (codes "BS Header") (is_bs_header schema) fields
    && not (list_any (is_named (codes "User Version 2")) fields && list_any (is_named (codes "BS Header")) fields))))

-- 6. `Num Block Types`, `Block Types`, `Block Type Index`, `Block Size`, `Num Strings` and `Strings` stand at most
-- once each. The two counts are no arrays: the first of the basic `ushort` or `uint`, the other of `uint`. `Block
-- Types` and `Strings` are of the struct `SizedString`, as many as their counts; `Block Type Index` of the basic
-- `BlockTypeIndex` and `Block Size` of `uint`, as many as `Num Blocks`. None has `width` or `arg`.
abbrev pub is_once : Name → (Field → Bool) → List Field → Bool
is_once name passes fields = is_at_most_one passes (of_name name fields)

abbrev pub is_single : Field → Bool
is_single f = not (is_array f) && (is_none f.width && is_none f.arg)

unfoldable pub is_type_count : Schema → Field → Bool
is_type_count schema f = (is_of_basic schema (codes "ushort") f || is_of_basic schema (codes "uint") f) && is_single f

-- strings with the length of this name, and numbers of this basic for each block
unfoldable pub are_strings : Schema → Name → Field → Bool
are_strings schema length f = is_of_struct schema (codes "SizedString") f && has_length length f

unfoldable pub are_numbers : Schema → Name → Field → Bool
are_numbers schema basic f = is_of_basic schema basic f && has_length (codes "Num Blocks") f

unfoldable pub has_type_lists : Schema → List Field → Bool
has_type_lists schema fields =
    is_once (codes "Num Block Types") (is_type_count schema) fields
    && is_once (codes "Block Types") (are_strings schema (codes "Num Block Types")) fields

unfoldable pub has_block_lists : Schema → List Field → Bool
has_block_lists schema fields =
    is_once (codes "Block Type Index") (are_numbers schema (codes "BlockTypeIndex")) fields
    && is_once (codes "Block Size") (are_numbers schema (codes "uint")) fields

unfoldable pub has_string_lists : Schema → List Field → Bool
has_string_lists schema fields =
    is_once (codes "Num Strings") (λ f. is_of_basic schema (codes "uint") f && is_single f) fields
    && is_once (codes "Strings") (are_strings schema (codes "Num Strings")) fields

unfoldable pub has_lists : Schema → List Field → Bool
has_lists schema fields =
    has_type_lists schema fields && (has_block_lists schema fields && has_string_lists schema fields)

-- 7. Where `Block Types` or `Strings` stands, `SizedString` has exactly the fields `Length` of the basic `uint` and
-- `Value` of the basic `char` with the length `Length`, with no other attribute.
abbrev pub are_sized : Schema → List Field → Bool
are_sized schema (first ∷ second ∷ []) =
    (is_named (codes "Length") first && (is_of_basic schema (codes "uint") first && is_bare first))
    && (is_named (codes "Value") second && (is_of_basic schema (codes "char") second
    && (is_bare_name (codes "Length") second.length && (is_plain second && has_no_bounds second))))
are_sized schema _ = false

unfoldable pub sized_fields : Schema → List Field
sized_fields schema = option_map_or (fields_of schema) (find schema (codes "SizedString")) []

unfoldable pub has_sized_strings : Schema → List Field → Bool
has_sized_strings schema fields =
    not (list_any (is_named (codes "Block Types")) fields || list_any (is_named (codes "Strings")) fields)
    || are_sized schema (sized_fields schema)

-- 8. No expression of a field of Header names `Num Blocks`, `Num Block Types`, `Num Strings`, `Block Type Index` or
-- `Block Size` as its first name, but for the lengths of rule 6. A field that is present in no accepted version isn't
-- asked.
abbrev pub is_counted : Name → Bool
is_counted name =
    bytes_eq name (codes "Num Blocks") || (bytes_eq name (codes "Num Block Types")
    || (bytes_eq name (codes "Num Strings")
    || (bytes_eq name (codes "Block Type Index") || bytes_eq name (codes "Block Size"))))

abbrev pub begins_counted : List Name → Bool
begins_counted [] = false
begins_counted (first ∷ names) = is_counted first

unfoldable pub names_counted : Option Formula → Bool
names_counted None = false
names_counted (Some Bad) = false
names_counted (Some (Read of)) = list_any begins_counted (paths_of of)

abbrev pub has_own_length : Field → Bool
has_own_length f =
    is_named (codes "Block Types") f || (is_named (codes "Strings") f
    || (is_named (codes "Block Type Index") f || is_named (codes "Block Size") f))

abbrev pub is_independent : Field → Bool
is_independent f =
    not (names_counted f.arg || (names_counted f.width || (names_counted f.cond || names_counted f.vercond)))
    && (has_own_length f || not (names_counted f.length))

unfoldable pub has_independent_fields : List Field → Bool
has_independent_fields fields = list_all (λ f. is_never f || is_independent f) fields

-- 9. No walk of uses leads from Header to `Ref`, `Ptr` or `NiFixedString`.
abbrev pub RefersNowhere : Schema → Type 0
RefersNowhere schema =
    (header to : ℕ) (what : What) → find schema (codes "Header") ≡ Some header → Reaches schema header to
    → what_at schema to ≡ Some what → refers what ≡ false

-- ---- all of them

pub record Roles (schema : Schema) : Type 0 where
  pub roots : HasRoots schema
  pub header_line : IsTrue (has_line schema (header_fields schema))
  pub version : IsTrue (has_version schema (header_fields schema))
  pub count : IsTrue (has_count schema (header_fields schema))
  pub user_versions : IsTrue (has_user_versions schema (header_fields schema))
  pub lists : IsTrue (has_lists schema (header_fields schema))
  pub sized_strings : IsTrue (has_sized_strings schema (header_fields schema))
  pub independent : IsTrue (has_independent_fields (header_fields schema))
  pub refers_nowhere : RefersNowhere schema

-- The first rule that fails: those before it hold, and it doesn't.
abbrev pub FirstFails : List (Type 0) → ℕ → Type 0
FirstFails [] number = ⊥
FirstFails (rule ∷ rules) zero = ⊥
FirstFails (rule ∷ rules) (suc zero) = ¬ rule
FirstFails (rule ∷ rules) (suc (suc number)) = rule × FirstFails rules (suc number)

abbrev pub rules : Schema → List (Type 0)
rules schema =
    HasRoots schema
    ∷ IsTrue (has_line schema (header_fields schema))
    ∷ IsTrue (has_version schema (header_fields schema))
    ∷ IsTrue (has_count schema (header_fields schema))
    ∷ IsTrue (has_user_versions schema (header_fields schema))
    ∷ IsTrue (has_lists schema (header_fields schema))
    ∷ IsTrue (has_sized_strings schema (header_fields schema))
    ∷ IsTrue (has_independent_fields (header_fields schema))
    ∷ RefersNowhere schema
    ∷ []

abbrev pub RoleFault : Schema → ℕ → Type 0
RoleFault schema number = FirstFails (rules schema) number
