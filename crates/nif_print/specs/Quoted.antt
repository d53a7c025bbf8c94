-- Bytes in quotes.
use Rattle.std.specs.Prelude.{ℕ, ◌+◌, ◌/◌, ◌%◌, Bool, ◌&&◌, nat_le, nat_lt, not, ◌==◌, if◌then◌else◌, List, [], ◌∷◌, ◌++◌, codes}

-- a digit of a hexadecimal number, below 16, in lower case
abbrev pub hex_digit : ℕ → ℕ
hex_digit n = if nat_lt n 10 then 48 + n else 87 + n

-- a byte as it is: printable, and neither a quote nor a backslash
abbrev pub is_plain : ℕ → Bool
is_plain byte = nat_le 0x20 byte && (nat_le byte 0x7E && (not (byte == 34) && not (byte == 92)))

-- a byte in quotes: as it is, or as a backslash, an x and two digits
abbrev pub quoted_byte : ℕ → List ℕ
quoted_byte byte = if is_plain byte then byte ∷ [] else 92 ∷ 120 ∷ hex_digit (byte / 16) ∷ hex_digit (byte % 16) ∷ []

abbrev pub quoted_bytes : List ℕ → List ℕ
quoted_bytes [] = []
quoted_bytes (byte ∷ bytes) = quoted_byte byte ++ quoted_bytes bytes

abbrev pub quoted : List ℕ → List ℕ
quoted bytes = codes "\"" ++ (quoted_bytes bytes ++ codes "\"")
