-- How far the digits of a number were read.
use Rattle.std.proofs.Common.{◌≡◌, ℕ, suc, ◌+◌, ◌*◌, ◌^◌, ◌<◌, ◌≤◌, Bool, true, false, List, [], ◌∷◌, length, take, drop, get_or, refl, sym, ap, ◌∙◌, subst, arith, lit<}
use Rattle.std.specs.List.{AllPass}
use Rattle.std.proofs.lemmas.List.{drop_more, drop_all, take_all}
use Rattle.std.proofs.lemmas.List.Elements.{All-more}
use Rattle.std.proofs.Math.Nat.{le-mul_of_pos_right, mul_comm, mul_assoc, mul-le-mul_right, pow-succ', pow-le-pow_right}
use Rattle.nif_base.specs.Ascii.{digit_value, is_hex_digit}
use Rattle.nif_expr.specs.Digits.{number_after, number_of}
use Rattle.std.proofs.lemmas.Bool.Decides.{nat_tests}

-- the first i digits are of the class, and n is their number
pub record IsReading (class : ℕ → Bool) (base : ℕ) (digits : List ℕ) (n i : ℕ) : Type 0 where
  pub passed : AllPass class (take i digits)
  pub value : number_of base digits ≡ number_after base n (drop i digits)

pub reading_none : (class : ℕ → Bool) (base : ℕ) (digits : List ℕ) → IsReading class base digits 0 0
reading_none class base digits = record { passed = λ k d h. absurd (omega arith); value = refl }

pub reading_more : (class : ℕ → Bool) (base : ℕ) (digits : List ℕ) (n m i d : ℕ) → i < length digits → class (get_or digits i 0) ≡ true
    → d ≡ digit_value (get_or digits i 0) → m ≡ base * n + d → IsReading class base digits n i → IsReading class base digits m (i + 1)
reading_more class base digits n m i d h p told e reading = record {
  passed = All-more (λ b. class b ≡ true) digits i 0 h reading.passed p;
  value = reading.value ∙ ap (number_after base n) (drop_more digits i 0 h) ∙ ap (λ x. number_after base x (drop (i + 1) digits)) (sym (e ∙ ap (λ x. base * n + x) told));
}

-- digits only add
grown : (base n : ℕ) (digits : List ℕ) → 0 < base → n ≤ number_after base n digits
grown base n [] h = omega arith
grown base n (b ∷ digits) h =
    let next = grown base (base * n + digit_value b) digits h in
    let times : n ≤ n * base = le-mul_of_pos_right n h in
    omega (arith, next, times, mul_comm n base)

-- a number that is too large stays so
pub reading_large : (class : ℕ → Bool) (base : ℕ) (digits : List ℕ) (n i d : ℕ) → 0 < base → i < length digits → d ≡ digit_value (get_or digits i 0)
    → (base * n + d < 2 ^ 64 → ⊥) → IsReading class base digits n i → number_of base digits < 2 ^ 64 → ⊥
reading_large class base digits n i d some h told large reading small =
    let e : number_of base digits ≡ number_after base (base * n + d) (drop (i + 1) digits) =
    reading.value ∙ ap (number_after base n) (drop_more digits i 0 h)
    ∙ ap (λ x. number_after base (base * n + x) (drop (i + 1) digits)) (sym told) in
    let more = grown base (base * n + d) (drop (i + 1) digits) some in
    large (omega (arith, e, more, small))

pub reading_other : (class : ℕ → Bool) (digits : List ℕ) (i : ℕ) → i < length digits → class (get_or digits i 0) ≡ false → AllPass class digits → ⊥
reading_other class digits i h p all = let q = all i 0 h in cc

pub reading_all : (class : ℕ → Bool) (base : ℕ) (digits : List ℕ) (n i : ℕ) → length digits ≤ i → IsReading class base digits n i
    → AllPass class digits × (number_of base digits ≡ n)
reading_all class base digits n i h reading =
    (subst (λ xs. AllPass class xs) (take_all i digits h) reading.passed, reading.value ∙ ap (number_after base n) (drop_all i digits h))

-- up to 16 hexadecimal digits

hex-small : (b : ℕ) → is_hex_digit b ≡ true → digit_value b ≤ 15
hex-small b h = grind (arith, nat_tests)

hex-bound : (n : ℕ) (digits : List ℕ) → AllPass is_hex_digit digits → number_after 16 n digits < (n + 1) * 16 ^ length digits
hex-bound n [] hex = omega arith
hex-bound n (b ∷ digits) hex =
    let first : digit_value b ≤ 15 = hex-small b (hex 0 0 (omega arith)) in
    let later = hex-bound (16 * n + digit_value b) digits (λ k d h. hex (suc k) d (omega (arith, h))) in
    let wide : 16 * n + digit_value b + 1 ≤ (n + 1) * 16 = omega (arith, first) in
    let P = 16 ^ length digits in
    let up : (16 * n + digit_value b + 1) * P ≤ (n + 1) * 16 * P = mul-le-mul_right P wide in
    let e : (n + 1) * 16 ^ suc (length digits) ≡ (n + 1) * 16 * P =
    ap (λ x. (n + 1) * x) (pow-succ' 16 (length digits)) ∙ sym (mul_assoc (n + 1) 16 P) in
    omega (arith, later, up, e)

pub hex-fits : (digits : List ℕ) → AllPass is_hex_digit digits → length digits ≤ 16 → number_of 16 digits < 2 ^ 64
hex-fits digits hex short =
    let below = hex-bound 0 digits hex in
    let top : 16 ^ length digits ≤ 16 ^ 16 = pow-le-pow_right (lit< tt) short in
    omega (arith, below, top)
