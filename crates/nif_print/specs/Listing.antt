-- What is printed of a schema: a line for each closed type, and the totals.
use Rattle.std.specs.Prelude.{ℕ, ◌≡◌, ◌+◌, List, [], ◌∷◌, ◌++◌, codes, decimal, None, Some, count_by, is_some, is_none}
use Rattle.std.specs.declared.option.Option.{Option}
use Rattle.nif_schema.specs.Declaration.{Name}
use Rattle.nif_schema.specs.Schema.{Schema}
use Rattle.nif_schema.specs.Reasons.{AreReasons}
use Rattle.nif_schema.specs.declared.faults.Closed.{Closed}
use Rattle.nif_schema.specs.declared.faults.Closed.TheVariants.{C0, C1, C2, C3, C4, C5, C6, C7, C8, C9, C10, C11, C12, C13}

-- the reason as it is printed: its number and its text
abbrev pub reason_text : Closed → List ℕ
reason_text C0 = codes "C0 uses a closed type"
reason_text C1 = codes "C1 undefined type"
reason_text C2 = codes "C2 undefined parent"
reason_text C3 = codes "C3 parent loop"
reason_text C4 = codes "C4 bad expression"
reason_text C5 = codes "C5 unknown name"
reason_text C6 = codes "C6 name is not a number"
reason_text C7 = codes "C7 template missing"
reason_text C8 = codes "C8 template undefined"
reason_text C9 = codes "C9 width is not an array"
reason_text C10 = codes "C10 storage is not an integer"
reason_text C11 = codes "C11 bad version text"
reason_text C12 = codes "C12 undefined only or exclude type"
reason_text C13 = codes "C13 bad bit member"

-- the line of a type: none where it is open
abbrev pub type_line : Name → Option Closed → List ℕ
type_line name None = []
type_line name (Some reason) = codes "closed " ++ (name ++ (codes " " ++ (reason_text reason ++ codes "\n")))

-- the lines of types in order, with their reasons
abbrev pub type_lines : Schema → List (Option Closed) → List ℕ
type_lines (d ∷ types) (reason ∷ reasons) = type_line d.name reason ++ type_lines types reasons
type_lines _ _ = []

-- how many types are open, and how many closed
abbrev pub shares : ℕ → ℕ → List ℕ
shares open_types closed_types =
    codes " open " ++ (decimal open_types ++ (codes " closed " ++ (decimal closed_types ++ codes "\n")))

-- the line of totals
abbrev pub totals : ℕ → ℕ → List ℕ
totals open_types closed_types =
    codes "types " ++ (decimal (open_types + closed_types) ++ shares open_types closed_types)

abbrev pub listing : Schema → List (Option Closed) → List ℕ
listing schema reasons = type_lines schema reasons ++ totals (count_by is_none reasons) (count_by is_some reasons)

-- the text that is printed of a schema
abbrev pub IsListing : Schema → List ℕ → Type 0
IsListing schema text = (reasons : List (Option Closed)) × AreReasons schema reasons × (text ≡ listing schema reasons)
