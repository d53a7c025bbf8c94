-- Attributes and their values.
use Rattle.std.specs.Prelude.{ℕ, ◌≡◌, Bool, not, ◌&&◌, ◌==◌, ◌⊎◌, if◌then◌else◌, List, [], ◌∷◌, ◌++◌}
use Rattle.std.specs.Char.{encode_utf8}
use Rattle.nif_text.specs.Parts.{Many, Byte, After}
use Rattle.nif_base.specs.Ascii.{is_blank}
use Rattle.nif_text.specs.Bytes.{is_allowed, Name, SomeBlanks, Spaced}
use Rattle.nif_text.specs.References.{Reference}

-- A byte of a value stands for itself unless it is `<`, `&` or the value's own quote.
abbrev pub is_value_byte : ℕ → ℕ → Bool
is_value_byte quote c = is_allowed c && not (c == 0x3C) && not (c == 0x26) && not (c == quote)

-- Each blank in a value becomes one space.
abbrev pub kept : ℕ → ℕ
kept c = if is_blank c then 0x20 else c

-- A part of a value is a byte, or a reference, which stands for the UTF-8 bytes of its character as they are.
abbrev pub ValuePart : ℕ → List ℕ → List ℕ → List ℕ → Type 0
ValuePart quote bytes text rest =
    ((c : ℕ) × Byte (is_value_byte quote) c text rest × (bytes ≡ kept c ∷ []))
    ⊎ ((c : ℕ) × Reference c text rest × (bytes ≡ encode_utf8 c))

-- the parts of a value joined
abbrev pub joined : List (List ℕ) → List ℕ
joined [] = []
joined (part ∷ parts) = part ++ joined parts

-- the parts, and the quote that ends them
abbrev pub Quoted : ℕ → List ℕ → List ℕ → List ℕ → Type 0
Quoted quote value text rest =
    (parts : List (List ℕ)) × (value ≡ joined parts) × Many (ValuePart quote) parts text (quote ∷ rest)

-- A value stands in `"` or in `'`.
abbrev pub Value : List ℕ → List ℕ → List ℕ → Type 0
Value value text rest =
    After (0x22 ∷ []) (Quoted 0x22) value text rest ⊎ After (0x27 ∷ []) (Quoted 0x27) value text rest

-- The value of an attribute stands behind `=`, with blanks or none before and behind it.
abbrev pub Assigned : List ℕ → List ℕ → List ℕ → Type 0
Assigned value text rest = Spaced (After (0x3D ∷ []) (Spaced Value)) value text rest

-- An attribute has one or more blanks before it: a name, and its value.
pub record Attribute (pair : List ℕ × List ℕ) (text rest : List ℕ) : Type 0 where
  pub name_at : List ℕ
  pub value_at : List ℕ
  pub blanks : SomeBlanks text name_at
  pub name : Name pair.0 name_at value_at
  pub value : Assigned pair.1 value_at rest
