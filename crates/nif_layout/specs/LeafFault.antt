-- Why a leaf, or a run of bytes, can't be read where its node is counted.
use Rattle.std.specs.Prelude.{ℕ, zero, suc, ◌+◌, ◌*◌, Bool, true, false, ◌&&◌, nat_lt, ◌==◌, if◌then◌else◌, None, Some, List, [], ◌∷◌, length, take, reverse}
use Rattle.std.specs.declared.option.Option.{Option}
use Rattle.std.specs.Option.{option_map}
use Rattle.nif_base.specs.Node.{is_little}
use Rattle.nif_layout.specs.Context.{Context}
use Rattle.nif_layout.specs.Kind.{Kind, Number, Line, Ref, Text}
use Rattle.nif_base.specs.Limits.{most_file_bytes}
use Rattle.nif_layout.specs.Fault.{Fault, Ended, TooLong, LineTooLong, RefRange, StringRange, Point}

-- The fault of what needs k bytes: they reach past the most bytes and the file has more than those, or fewer are left.
abbrev pub shortage : ℕ → Point → Option Fault
shortage k at =
    if nat_lt most_file_bytes (at.place + k) && nat_lt most_file_bytes (at.place + length at.left) then Some TooLong
    else if nat_lt (length at.left) k then Some (Ended at.place)
    else None

-- the first fault of two
abbrev pub or_else : Option Fault → Option Fault → Option Fault
or_else None second = second
or_else (Some fault) second = Some fault

-- the place of the first 0x0A among so many bytes
unfoldable pub newline : ℕ → List ℕ → Option ℕ
newline zero bytes = None
newline (suc most) [] = None
newline (suc most) (b ∷ bytes) = if b == 0x0A then Some 0 else option_map (λ k. suc k) (newline most bytes)

-- A line needs the bytes up to and with its 0x0A where that is among the first 256, else 256 bytes; it is too long
-- where these are there and none of them is 0x0A.
abbrev pub line_needs : Option ℕ → ℕ
line_needs None = 256
line_needs (Some k) = suc k

abbrev pub line_fault : Option ℕ → ℕ → Option Fault
line_fault None place = Some (LineTooLong place)
line_fault (Some k) place = None

-- the number that bytes spell, the lowest first
abbrev pub low_value : List ℕ → ℕ
low_value [] = 0
low_value (b ∷ bytes) = b + 256 * low_value bytes

-- the number that the first bytes spell, the lowest first where it is little, else the highest first
abbrev pub number_at : Bool → ℕ → List ℕ → ℕ
number_at true width bytes = low_value (take width bytes)
number_at false width bytes = low_value (reverse (take width bytes))

-- a number that isn't that of none is out of range
abbrev pub range_fault : ℕ → ℕ → Fault → Option Fault
range_fault most value fault = if value == 0xFFFFFFFF then None else if nat_lt value most then None else Some fault

abbrev pub leaf_fault : Context → Kind → Point → Option Fault
leaf_fault C (Number width little) at = shortage width at
leaf_fault C Line at =
    or_else (shortage (line_needs (newline 256 at.left)) at) (line_fault (newline 256 at.left) at.place)
leaf_fault C (Ref strong wanted) at =
    let value = number_at (is_little C.order) 4 at.left in
    or_else (shortage 4 at) (range_fault C.blocks value (RefRange at.place value))
leaf_fault C Text at =
    let value = number_at (is_little C.order) 4 at.left in
    or_else (shortage 4 at) (range_fault C.strings value (StringRange at.place value))
leaf_fault C _ at = None
