-- Kinds of ASCII bytes, and what digits stand for.
use Rattle.std.specs.Prelude.{ℕ, ◌-◌, Bool, ◌&&◌, ◌||◌, ◌==◌, nat_le, if◌then◌else◌}

-- from one byte to another, both included
abbrev pub is_between : ℕ → ℕ → ℕ → Bool
is_between low high byte = nat_le low byte && nat_le byte high

-- a space, a tab, a line feed or a carriage return
abbrev pub is_blank : ℕ → Bool
is_blank byte = byte == 0x20 || byte == 0x09 || byte == 0x0A || byte == 0x0D

-- 0 to 9
abbrev pub is_digit : ℕ → Bool
is_digit byte = is_between 0x30 0x39 byte

-- 0 to 9, a to f and A to F
abbrev pub is_hex_digit : ℕ → Bool
is_hex_digit byte = is_digit byte || is_between 0x61 0x66 byte || is_between 0x41 0x46 byte

-- what a digit of base 10 or 16 stands for
abbrev pub digit_value : ℕ → ℕ
digit_value byte = if nat_le 0x61 byte then byte - 0x57 else (if nat_le 0x41 byte then byte - 0x37 else byte - 0x30)
