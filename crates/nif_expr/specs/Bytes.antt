-- Classes of bytes, and runs of them.
use Rattle.std.specs.Prelude.{ℕ, Bool, false, ◌||◌, if◌then◌else◌, ◌==◌, List, [], ◌∷◌, reverse}
use Rattle.nif_base.specs.Ascii.{is_between, is_blank, is_digit}

-- an ASCII letter or `_`
abbrev pub is_letter : ℕ → Bool
is_letter b = is_between 65 90 b || is_between 97 122 b || b == 95

abbrev pub is_backslash : ℕ → Bool
is_backslash b = b == 92

-- A name goes on with letters, `_`, digits, `?`, `:`, `'` and blanks.
abbrev pub is_in_name : ℕ → Bool
is_in_name b = is_letter b || is_digit b || b == 63 || b == 58 || b == 39 || is_blank b

-- A number goes on as far as letters, `_`, digits and dots go: `12a` and `1.2.3.4.5` are no numbers, and not two
-- parts either.
abbrev pub is_in_number : ℕ → Bool
is_in_number b = is_letter b || is_digit b || b == 46

-- whether a text begins with a byte of a class
abbrev pub begins : (ℕ → Bool) → List ℕ → Bool
begins class [] = false
begins class (b ∷ text) = class b

-- the bytes of a class at the front of a text, as many as there are
abbrev pub front : (ℕ → Bool) → List ℕ → List ℕ
front class [] = []
front class (b ∷ text) = if class b then b ∷ front class text else []

-- what follows them
abbrev pub after : (ℕ → Bool) → List ℕ → List ℕ
after class [] = []
after class (b ∷ text) = if class b then after class text else b ∷ text

-- a text without its last blanks
abbrev pub trimmed : List ℕ → List ℕ
trimmed text = reverse (after is_blank (reverse text))
