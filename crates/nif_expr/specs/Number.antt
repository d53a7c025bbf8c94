-- The numbers of expressions, without a sign: decimal, hexadecimal after `0x`, or a version text.
use Rattle.std.specs.Prelude.{◌≡◌, ℕ, ◌^◌, ◌<◌, ◌≤◌, ◌⊎◌, List, ◌++◌, length, codes, Contains, Some}
use Rattle.std.specs.List.{AllPass}
use Rattle.nif_base.specs.Ascii.{is_digit, is_hex_digit}
use Rattle.nif_expr.specs.Digits.{number_of}
use Rattle.nif_base.specs.Version.{version_of}

-- decimal digits of value below 2 ^ 64
pub record IsDecimal (text : List ℕ) (n : ℕ) : Type 0 where
  pub some : 0 < length text
  pub digits : AllPass is_digit text
  pub value : number_of 10 text ≡ n
  pub small : n < 2 ^ 64

-- `0x` and 1 to 16 hexadecimal digits
pub record IsHexadecimal (text : List ℕ) (n : ℕ) : Type 0 where
  pub digits : List ℕ
  pub spelled : text ≡ codes "0x" ++ digits
  pub some : 0 < length digits
  pub short : length digits ≤ 16
  pub hex : AllPass is_hex_digit digits
  pub value : number_of 16 digits ≡ n

-- a version text with at least one dot
pub record IsVersion (text : List ℕ) (n : ℕ) : Type 0 where
  pub dot : Contains text 46
  pub value : version_of text ≡ Some n

abbrev pub IsNumber : List ℕ → ℕ → Type 0
IsNumber text n = IsDecimal text n ⊎ IsHexadecimal text n ⊎ IsVersion text n
