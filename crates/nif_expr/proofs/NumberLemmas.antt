-- What is told of digits tells of numbers.
use Rattle.std.proofs.Common.{zero, suc, arith, ◌≡◌, ℕ, ◌<◌, ◌≤◌, ◌^◌, true, false, List, ◌++◌, length, take, drop, sym, ap, ◌∙◌, subst, inl, inr}
use Rattle.std.specs.Prelude.{Option, Some, None, MatchOption, IfSome, IfNone, codes, nat_eq, ◌==◌}
use Rattle.std.specs.List.{AllPass}
use Rattle.std.proofs.lemmas.List.{take-append-drop}
use lib.Pointwise.{pointwise, bytes_decides}
use Rattle.nif_base.specs.Ascii.{is_hex_digit}
use Rattle.nif_expr.specs.Digits.{number_of}
use Rattle.nif_expr.specs.Number.{IsNumber, IsDecimal, IsHexadecimal, IsVersion}
use Rattle.nif_expr.proofs.DigitLemmas.{hex-fits}

stripped : (text digits : List ℕ) → pointwise nat_eq (take 2 text) (codes "0x") ≡ true → digits ≡ drop 2 text → text ≡ codes "0x" ++ digits
stripped text digits same rest =
    sym (take-append-drop 2 text) ∙ ap (λ x. x ++ drop 2 text) ((bytes_decides (take 2 text) (codes "0x")).0 same) ∙ ap (λ x. codes "0x" ++ x) (sym rest)

some-length : (n : ℕ) → (n == 0) ≡ false → 0 < n
some-length zero h = cc
some-length (suc n) h = omega arith

-- where `0x` and 1 to 16 bytes stand
pub hex_told : (text digits : List ℕ) (r : Option ℕ) → pointwise nat_eq (take 2 text) (codes "0x") ≡ true → digits ≡ drop 2 text
    → false ≡ (length digits == 0) → length digits ≤ 16
    → IfSome r (λ n. AllPass is_hex_digit digits × (number_of 16 digits ≡ n))
    → IfNone r (AllPass is_hex_digit digits → number_of 16 digits < 2 ^ 64 → ⊥)
    → MatchOption r ((n : ℕ) → IsHexadecimal text n → ⊥) (λ n. IsHexadecimal text n)
hex_told text digits (Some n) same rest some short told other =
    record { digits = digits; spelled = stripped text digits same rest; some = some-length (length digits) (sym some); short = short; hex = told.0; value = told.1 }
hex_told text digits None same rest some short told other = λ n h.
    let e : codes "0x" ++ h.digits ≡ codes "0x" ++ digits = sym h.spelled ∙ stripped text digits same rest in
    let also : h.digits ≡ digits = cc in
    let hex : AllPass is_hex_digit digits = subst (λ x. AllPass is_hex_digit x) also h.hex in
    other hex (hex-fits digits hex short)

-- a text that is of no other kind
pub number_told : (text : List ℕ) (r : Option ℕ) → ((n : ℕ) → IsDecimal text n → ⊥) → ((n : ℕ) → IsHexadecimal text n → ⊥)
    → MatchOption r ((n : ℕ) → IsVersion text n → ⊥) (λ n. IsVersion text n)
    → MatchOption r ((n : ℕ) → IsNumber text n → ⊥) (λ n. IsNumber text n)
number_told text (Some n) decimal hex version = inr (inr version)
number_told text None decimal hex version = λ n h. elim h [ inl d ↦ decimal n d | inr x ↦ elim x [ inl d ↦ hex n d | inr v ↦ version n v ] ]
