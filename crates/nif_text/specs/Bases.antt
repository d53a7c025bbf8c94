-- The bases of numbers, and numbers that stop to grow.
use Rattle.std.specs.Prelude.{ℕ, ◌≡◌, ◌≤◌, ◌⊎◌, Bool}
use Rattle.nif_text.specs.References.{is_decimal, is_hexadecimal}
use Rattle.nif_text.specs.declared.reference.Base.{Base}
use Rattle.nif_text.specs.declared.reference.Base.TheVariants.{Ten, Sixteen}

abbrev pub base_of : Base → ℕ
base_of Ten = 10
base_of Sixteen = 16

abbrev pub is_digit : Base → ℕ → Bool
is_digit Ten = is_decimal
is_digit Sixteen = is_hexadecimal

-- The number itself, or, where it is 0x110000 or above, any such number.
abbrev pub IsCapped : ℕ → ℕ → Type 0
IsCapped kept whole = (kept ≡ whole) ⊎ ((0x110000 ≤ whole) × (0x110000 ≤ kept))
