-- A version text has one to four parts with one dot between two of them; a part is one to three decimal digits of
-- a value of at most 255. The parts are the bytes of the number, the first the highest; each part that is missing
-- is 0.
use Rattle.std.specs.Prelude.{ℕ, ◌-◌, ◌≤◌, List, [], ◌∷◌, ◌++◌, length, replicate, nat_le, ◌==◌, ◌&&◌, if◌then◌else◌, None, Some, IfSome, option_and_then}
use Rattle.std.specs.declared.option.Option.{Option}
use Rattle.std.specs.Option.{option_map}
use Rattle.std.specs.List.{list_all, slice_split}
use Rattle.std.specs.Char.{is_ascii_digit}
use Rattle.std.specs.Str.Parse.{digits_value}
use Rattle.std.specs.Int.{from_be_bytes, w32}

-- the value of a part, or none where the bytes are no part
unfoldable pub part_of : List ℕ → Option ℕ
part_of bytes =
    if list_all is_ascii_digit bytes && nat_le 1 (length bytes) && nat_le (length bytes) 3
    && nat_le (digits_value 10 bytes) 255
    then Some (digits_value 10 bytes)
    else None

-- what a text has before, between and behind its dots
abbrev pub pieces_of : List ℕ → List (List ℕ)
pieces_of text = slice_split (λ c. c == 46) text

-- the values of these pieces, or none where one is no part
abbrev pub values_of : List (List ℕ) → Option (List ℕ)
values_of [] = Some []
values_of (piece ∷ pieces) =
    option_and_then (λ value. option_map (λ values. value ∷ values) (values_of pieces)) (part_of piece)

-- the number that has these bytes and behind them zeros, or none where they are more than four
unfoldable pub number_of : List ℕ → Option ℕ
number_of values = if nat_le (length values) 4 then Some (from_be_bytes w32 (values ++ replicate (4 - length values) 0))
    else None

-- the number of a version text, or none where the text is no version text
unfoldable pub version_of : List ℕ → Option ℕ
version_of text = option_and_then number_of (values_of (pieces_of text))

-- the version is at least the first and at most the last, each where it is given
pub record IsInside (version : ℕ) (first last : Option ℕ) : Type 0 where
  pub since : IfSome first (λ least. least ≤ version)
  pub until : IfSome last (λ most. version ≤ most)
