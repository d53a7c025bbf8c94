-- The first spelling that fits is the longest.
use Rattle.std.proofs.Common.{◌≡◌, ℕ, ◌+◌, ◌≤◌, Bool, true, false, cond, List, [], ◌∷◌, Some, length, drop, refl, sym, ap, ◌∙◌, subst, arith, length-drop}
use Rattle.std.specs.Prelude.{◌&&◌, not, nat_eq, take}
use lib.Pointwise.{pointwise}
use Rattle.std.specs.List.{starts_with}
use Rattle.std.proofs.lemmas.Bool.{eqb-true, eq-eqb}
use Rattle.nif_expr.specs.Parts.{Part, signs, first_sign, AreNotLonger}
use Rattle.nif_expr.proofs.OneReading.{both-true, not-plain, unlike}

-- no later spelling begins with an earlier one
abbrev pub is_apart : List ℕ → List (List ℕ × Part) → Bool
is_apart spelling [] = true
is_apart spelling (entry ∷ others) = not (starts_with nat_eq entry.0 spelling) && is_apart spelling others

abbrev pub is_in_order : List (List ℕ × Part) → Bool
is_in_order [] = true
is_in_order (entry ∷ others) = is_apart entry.0 others && is_in_order others

signs-in_order : is_in_order signs ≡ true
unfolding signs
signs-in_order = refl

head-same : (c b : ℕ) (spelling text : List ℕ) → starts_with nat_eq (b ∷ text) (c ∷ spelling) ≡ true
    → (c ≡ b) × (starts_with nat_eq text spelling ≡ true)
head-same c b spelling text fits =
    let both = both-true (nat_eq c b) (pointwise nat_eq spelling (take (length spelling) text)) fits in (eqb-true c b both.0, both.1)

fits-short : (text spelling : List ℕ) → starts_with nat_eq text spelling ≡ true → length spelling ≤ length text
fits-short text [] fits = omega arith
fits-short [] (c ∷ spelling) fits = cc
fits-short (b ∷ text) (c ∷ spelling) fits = omega (arith, fits-short text spelling (head-same c b spelling text fits).1)

fits-no_longer : (text spelling other : List ℕ) → starts_with nat_eq text spelling ≡ true → starts_with nat_eq text other ≡ true
    → starts_with nat_eq other spelling ≡ false → length other ≤ length spelling
fits-no_longer text [] other fits also apart = cc
fits-no_longer text (c ∷ spelling) [] fits also apart = omega arith
fits-no_longer [] (c ∷ spelling) (d ∷ other) fits also apart = cc
fits-no_longer (b ∷ text) (c ∷ spelling) (d ∷ other) fits also apart =
    let one = head-same c b spelling text fits in
    let two = head-same d b other text also in
    let same : nat_eq c d ≡ true = eq-eqb c d (one.0 ∙ sym two.0) in
    let rest : starts_with nat_eq other spelling ≡ false = sym (ap (λ r. r && starts_with nat_eq other spelling) same) ∙ apart in
    omega (arith, fits-no_longer text spelling other one.1 two.1 rest)

later : (table : List (List ℕ × Part)) (text spelling : List ℕ) → is_apart spelling table ≡ true → starts_with nat_eq text spelling ≡ true
    → AreNotLonger table text (drop (length spelling) text)
later [] text spelling apart fits = tt
later (entry ∷ others) text spelling apart fits =
    let both = both-true (not (starts_with nat_eq entry.0 spelling)) (is_apart spelling others) apart in (
      λ also. omega (
        arith,
        fits-no_longer text spelling entry.0 fits also (not-plain (starts_with nat_eq entry.0 spelling) both.0),
        fits-short text spelling fits,
        length-drop (length spelling) text,
      ),
      later others text spelling both.1 fits,
    )

longest_in : (table : List (List ℕ × Part)) (text rest : List ℕ) (p : Part) → is_in_order table ≡ true → first_sign table text ≡ Some (p, rest)
    → AreNotLonger table text rest
longest_in [] text rest p order found = tt
longest_in (entry ∷ others) text rest p order found =
    at (starts_with nat_eq text entry.0) refl (longest_in others text rest p both.1) found
  where
    both : (is_apart entry.0 others ≡ true) × (is_in_order others ≡ true)
    both = both-true (is_apart entry.0 others) (is_in_order others) order

    at : (r : Bool) → starts_with nat_eq text entry.0 ≡ r → (first_sign others text ≡ Some (p, rest) → AreNotLonger others text rest)
        → cond r (Some (entry.1, drop (length entry.0) text)) (first_sign others text) ≡ Some (p, rest)
        → (starts_with nat_eq text entry.0 ≡ true → length rest + length entry.0 ≤ length text) × AreNotLonger others text rest
    at true fits after out =
        let pair : ◌≡◌ {A = Part × List ℕ} (entry.1, drop (length entry.0) text) (p, rest) = cc in
        let e : drop (length entry.0) text ≡ rest = ap (λ x. x.1) pair in (
          λ also. omega (arith, ap length e, fits-short text entry.0 fits, length-drop (length entry.0) text),
          subst (λ x. AreNotLonger others text x) e (later others text entry.0 both.0 fits),
        )
    at false other after out = (λ also. unlike also other, after out)

pub longest_sign : (text rest : List ℕ) (p : Part) → first_sign signs text ≡ Some (p, rest) → AreNotLonger signs text rest
longest_sign text rest p found = longest_in signs text rest p signs-in_order found
