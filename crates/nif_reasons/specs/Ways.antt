-- The way from a root down to a type, and the fields on it.
use Rattle.std.specs.Prelude.{ℕ, ◌≡◌, ◌<◌, List, [], ◌∷◌, ◌++◌, length, flat_map, None, Some, Bool, false, slice_get}
use Rattle.std.specs.Option.{option_map_or}
use Rattle.nif_schema.specs.Uses.{is_struct}
use Rattle.std.specs.declared.option.Option.{Option}
use Rattle.nif_schema.specs.Declaration.{Field}
use Rattle.nif_schema.specs.Schema.{Schema, parent, fields_of}
use Rattle.nif_schema.specs.Reasons.{first_reason, fields_reason}
use Rattle.nif_schema.specs.declared.faults.Closed.{Closed}
use Rattle.nif_paths.specs.Marks.{IsLine}
use Rattle.nif_paths.specs.declared.lines.Line.{Line}

-- each is the child of the one before it, the first that of `above`
abbrev pub IsWayFrom : Schema → Option ℕ → List ℕ → Type 0
IsWayFrom schema above [] = Unit {0}
IsWayFrom schema above (n ∷ ns) = (parent schema n ≡ above) × (n < length schema) × IsWayFrom schema (Some n) ns

-- the last of a way, or what is above it
abbrev pub last_or : Option ℕ → List ℕ → Option ℕ
last_or above [] = above
last_or above (n ∷ ns) = last_or (Some n) ns

abbrev pub fields_on : Schema → List ℕ → List Field
fields_on schema way = flat_map (fields_of schema) way

-- a way from a root, with a line of the fields on it
pub record IsAt (schema : Schema) (stack : List ℕ) (fields : Line) : Type 0 where
  pub way : IsWayFrom schema None stack
  pub line : IsLine schema (fields_on schema stack) fields

-- whether a struct has this number
abbrev pub has_struct : Schema → ℕ → Bool
has_struct schema number = option_map_or (λ d. is_struct d.what) (slice_get schema number) false

-- Fields are put behind those of a line: the answer is a reason so far, or else the first that one of them gives.
abbrev pub AddsFields : Schema → Bool → Option Closed → List Field → Line → Line → Option Closed → Type 0
AddsFields schema in_struct so_far fields old new reason =
    (earlier : List Field) → IsLine schema earlier old
    → (reason ≡ first_reason (so_far ∷ fields_reason schema in_struct earlier fields ∷ []))
    × IsLine schema (earlier ++ fields) new

-- a reason so far, or else the first that an own field of a type gives, behind the fields on a way
abbrev pub own_reason_on : Schema → List ℕ → Option Closed → ℕ → Option Closed
own_reason_on schema way so_far number =
    first_reason (so_far ∷ fields_reason schema (has_struct schema number) (fields_on schema way)
    (fields_of schema number) ∷ [])
