-- The classes of bytes, as tests.
use Rattle.std.specs.Prelude.{ℕ, Bool}
use Rattle.nif_base.specs.Ascii.{is_blank, is_digit, is_hex_digit}
use Rattle.nif_expr.specs.Bytes.{is_letter, is_in_name, is_in_number}
use Rattle.nif_expr.specs.declared.runs.Class.{Class}
use Rattle.nif_expr.specs.declared.runs.Class.TheVariants.{Blank, Letter, Digit, HexDigit, InName, InNumber}

abbrev pub holds : Class → ℕ → Bool
holds Blank = is_blank
holds Letter = is_letter
holds Digit = is_digit
holds HexDigit = is_hex_digit
holds InName = is_in_name
holds InNumber = is_in_number
