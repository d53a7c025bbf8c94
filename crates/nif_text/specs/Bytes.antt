-- The kinds of bytes, blanks and names.
use Rattle.std.specs.Prelude.{ℕ, Bool, ◌||◌, ◌==◌, nat_le, List, [], ◌∷◌}
use Rattle.nif_base.specs.Ascii.{is_between, is_blank, is_digit}
use Rattle.nif_text.specs.Parts.{Many, Byte}

-- No byte below 0x20 but a blank stands anywhere.
abbrev pub is_allowed : ℕ → Bool
is_allowed c = nat_le 0x20 c || is_blank c

-- A name begins with an ASCII letter, `_` or `:`
abbrev pub is_name_start : ℕ → Bool
is_name_start c = is_between 0x61 0x7A c || is_between 0x41 0x5A c || (c == 0x5F) || (c == 0x3A)

-- and goes on with these, digits, `-` and `.`
abbrev pub is_name_byte : ℕ → Bool
is_name_byte c = is_name_start c || is_digit c || (c == 0x2D) || (c == 0x2E)

abbrev pub Name : List ℕ → List ℕ → List ℕ → Type 0
Name [] text rest = ⊥
Name (first ∷ more) text rest =
    (next : List ℕ) × Byte is_name_start first text next × Many (Byte is_name_byte) more next rest

-- any number of blanks
abbrev pub Blanks : List ℕ → List ℕ → Type 0
Blanks text rest = (blanks : List ℕ) × Many (Byte is_blank) blanks text rest

-- one or more
abbrev pub SomeBlanks : List ℕ → List ℕ → Type 0
SomeBlanks text rest = (first : ℕ) × (next : List ℕ) × Byte is_blank first text next × Blanks next rest

-- blanks or none, and then a spelling by P
abbrev pub Spaced : {I : Type 0} → (I → List ℕ → List ℕ → Type 0) → I → List ℕ → List ℕ → Type 0
Spaced P item text rest = (next : List ℕ) × Blanks text next × P item next rest
