-- References, each to one character.
use Rattle.std.specs.Prelude.{ℕ, ◌+◌, ◌*◌, ◌≡◌, ◌≢◌, Bool, IsTrue, ◌||◌, ◌==◌, List, [], ◌∷◌, codes}
use Rattle.nif_text.specs.Parts.{Many, Byte, Literal, After}
use Rattle.nif_base.specs.Ascii.{is_between, is_digit, is_hex_digit, digit_value}

-- the digits of base 10, and those of base 16 in both cases
abbrev pub is_decimal : ℕ → Bool
is_decimal c = is_digit c

abbrev pub is_hexadecimal : ℕ → Bool
is_hexadecimal c = is_hex_digit c

-- the number of these digits, the highest first, behind a number of higher ones
abbrev pub number : ℕ → ℕ → List ℕ → ℕ
number base higher [] = higher
number base higher (digit ∷ digits) = number base (higher * base + digit_value digit) digits

-- A character is 9, 10, 13, 0x20 to 0xD7FF, 0xE000 to 0xFFFD or 0x10000 to 0x10FFFF.
abbrev pub is_character : ℕ → Bool
is_character c = (c == 9) || (c == 10) || (c == 13) || is_between 0x20 0xD7FF c || is_between 0xE000 0xFFFD c
    || is_between 0x10000 0x10FFFF c

-- One or more digits and `;` stand for the character of their number.
pub record Number (base : ℕ) (is_digit : ℕ → Bool) (character : ℕ) (text rest : List ℕ) : Type 0 where
  pub digits : List ℕ
  pub some : digits ≢ []
  pub run : Many (Byte is_digit) digits text (0x3B ∷ rest)
  pub value : character ≡ number base 0 digits
  pub in_range : IsTrue (is_character character)

-- A reference is one of five names between `&` and `;`, or a number, decimal behind `&#` and hexadecimal behind `&#x`.
pub data Reference : ℕ → List ℕ → List ℕ → Type 0 where
  Less : {text rest : List ℕ} → Literal (codes "&lt;") text rest → Reference 0x3C text rest
  Greater : {text rest : List ℕ} → Literal (codes "&gt;") text rest → Reference 0x3E text rest
  Ampersand : {text rest : List ℕ} → Literal (codes "&amp;") text rest → Reference 0x26 text rest
  Quote : {text rest : List ℕ} → Literal (codes "&quot;") text rest → Reference 0x22 text rest
  Apostrophe : {text rest : List ℕ} → Literal (codes "&apos;") text rest → Reference 0x27 text rest
  Decimal : {c : ℕ} {text rest : List ℕ} → After (codes "&#") (Number 10 is_decimal) c text rest → Reference c text rest
  Hexadecimal : {c : ℕ} {text rest : List ℕ} → After (codes "&#x") (Number 16 is_hexadecimal) c text rest
      → Reference c text rest
