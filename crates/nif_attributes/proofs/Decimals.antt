-- Decimal numbers, digit by digit.
use Rattle.std.proofs.Common.{◌≡◌, ℕ, ◌+◌, ◌-◌, ◌*◌, ◌<◌, ◌≤◌, Bool, true, false, cond, nat_le, List, [], ◌∷◌, length, take, get_or, Option, Some, None, refl, ap, sym, ◌∙◌, arith}
use Rattle.std.specs.Prelude.{◌&&◌}
use Rattle.std.specs.Char.{is_ascii_digit, digit_value}
use Rattle.std.specs.List.{list_all}
use Rattle.std.specs.Str.Parse.{digits_value}
use Rattle.std.proofs.lemmas.Bool.Decides.{nat_tests}
use Rattle.std.proofs.lemmas.Int.Digits.{digits_value_more}
use Rattle.nif_attributes.specs.Attributes.{Text}
use Rattle.nif_attributes.specs.Texts.{decimal}

pub digit_below : (digit : ℕ) → is_ascii_digit digit ≡ true → digit - 48 ≤ 9
digit_below digit e = grind arith

digit_worth : (digit : ℕ) → is_ascii_digit digit ≡ true → digit_value digit ≡ digit - 48
digit_worth digit e = grind arith

-- one more digit was read
pub digit_read : (digits : List ℕ) (i value more : ℕ) → i < length digits → is_ascii_digit (get_or digits i 0) ≡ true → value ≡ digits_value 10 (take i digits)
    → more ≡ get_or digits i 0 - 48 → value * 10 + more ≡ digits_value 10 (take (i + 1) digits)
digit_read digits i value more h e is m =
    ap (λ v. v * 10 + more) is ∙ ap (λ d. digits_value 10 (take i digits) * 10 + d) (m ∙ sym (digit_worth (get_or digits i 0) e)) ∙ sym (digits_value_more 10 digits i h)

and-false : (a : Bool) → (a && false) ≡ false
and-false true = refl
and-false false = refl

abbrev answer : Bool → ℕ → Option ℕ
answer b n = cond b (Some n) None

decimal-is : (most : ℕ) (text : Text) → decimal most text ≡ answer (list_all is_ascii_digit text && nat_le 1 (length text) && nat_le (digits_value 10 text) most) (digits_value 10 text)
unfolding decimal
decimal-is most text = refl

decimal-nil : (most : ℕ) → None ≡ decimal most []
unfolding decimal
decimal-nil most = refl

pub decimal_empty : (most : ℕ) (text : Text) → length text ≡ 0 → None ≡ decimal most text
decimal_empty most [] e = decimal-nil most
decimal_empty most (b ∷ text) e = absurd (omega (arith, e))

pub decimal_other : (most : ℕ) (text : Text) → list_all is_ascii_digit text ≡ false → None ≡ decimal most text
decimal_other most text e =
    sym (decimal-is most text ∙ ap (λ a. answer (a && nat_le 1 (length text) && nat_le (digits_value 10 text) most) (digits_value 10 text)) e)

pub decimal_above : (most : ℕ) (text : Text) → most < digits_value 10 text → None ≡ decimal most text
decimal_above most text h =
    let no : nat_le (digits_value 10 text) most ≡ false = grind (arith, nat_tests) in
    sym (decimal-is most text
    ∙ ap (λ a. answer (list_all is_ascii_digit text && nat_le 1 (length text) && a) (digits_value 10 text)) no
    ∙ ap (λ a. answer a (digits_value 10 text)) (and-false (list_all is_ascii_digit text && nat_le 1 (length text))))

pub decimal_read : (most : ℕ) (text : Text) (n : ℕ) → list_all is_ascii_digit text ≡ true → 1 ≤ length text → n ≡ digits_value 10 text → n ≤ most → Some n ≡ decimal most text
decimal_read most text n digits some is small =
    let one : nat_le 1 (length text) ≡ true = grind (arith, nat_tests) in
    let yes : nat_le (digits_value 10 text) most ≡ true = grind (arith, nat_tests) in
    ap (λ m. Some m) is
    ∙ sym (decimal-is most text
    ∙ ap (λ a. answer (a && nat_le 1 (length text) && nat_le (digits_value 10 text) most) (digits_value 10 text)) digits
    ∙ ap (λ a. answer (a && nat_le (digits_value 10 text) most) (digits_value 10 text)) one
    ∙ ap (λ a. answer a (digits_value 10 text)) yes)
