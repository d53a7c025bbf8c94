-- Digits and the numbers that they spell.
use Rattle.std.specs.Prelude.{ℕ, ◌+◌, ◌*◌, List, [], ◌∷◌}
use Rattle.nif_base.specs.Ascii.{digit_value}

-- the number of the digits so far, and then of those that follow
abbrev pub number_after : ℕ → ℕ → List ℕ → ℕ
number_after base n [] = n
number_after base n (b ∷ digits) = number_after base (base * n + digit_value b) digits

abbrev pub number_of : ℕ → List ℕ → ℕ
number_of base digits = number_after base 0 digits
