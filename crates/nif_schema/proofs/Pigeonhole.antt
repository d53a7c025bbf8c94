-- Of more than n numbers below n, two are equal.
use Rattle.std.proofs.Common.{◌≡◌, ℕ, zero, suc, ◌<◌, ◌≤◌, Bool, true, false, ◌||◌, eqb, List, [], ◌∷◌, length, ◌⊎◌, inl, inr, refl, sym, ap, ◌∙◌, true≢false, arith}
use Rattle.std.specs.List.{IsDistinct, AllByRecursion, list_any}
use Rattle.std.proofs.lemmas.Map.Steps.{length-le_from_distinct_below}
use Rattle.std.proofs.lemmas.Bool.{eqb-true}

-- two of the values up to n are equal
pub record Repeats (f : ℕ → ℕ) (n : ℕ) : Type 0 where
  pub first : ℕ
  pub second : ℕ
  pub before : first < second
  pub within : second < n
  pub same : f first ≡ f second

module _ (f : ℕ → ℕ) where
  abbrev values : ℕ → List ℕ
  values zero = []
  values (suc k) = f k ∷ values k

  length-values : (k : ℕ) → length (values k) ≡ k
  length-values zero = refl
  length-values (suc k) = ap suc (length-values k)

  -- a number is one of the values, or apart from all of them
  met : (x k : ℕ) → ((i : ℕ) × (i < k) × (f i ≡ x)) ⊎ AllByRecursion (λ y. eqb x y ≡ false) (values k)
  met x zero = inr tt
  met x (suc k) = by (eqb x (f k)) refl (met x k)
    where
      by : (b : Bool) → eqb x (f k) ≡ b → ((i : ℕ) × (i < k) × (f i ≡ x)) ⊎ AllByRecursion (λ y. eqb x y ≡ false) (values k)
          → ((i : ℕ) × (i < suc k) × (f i ≡ x)) ⊎ AllByRecursion (λ y. eqb x y ≡ false) (values (suc k))
      by true e rest = inl (k, omega arith, sym (eqb-true x (f k) e))
      by false e (inl h) = inl (h.0, omega arith, h.2)
      by false e (inr all) = inr (e, all)

  distinct_or : (k : ℕ) → Repeats f k ⊎ IsDistinct eqb (values k)
  unfolding IsDistinct
  distinct_or zero = inr tt
  distinct_or (suc k) = elim (distinct_or k) [
    | inl r ↦ inl (record { first = r.first; second = r.second; before = r.before; within = omega arith; same = r.same })
    | inr d ↦ elim (met (f k) k) [
      | inl h ↦ inl (record { first = h.0; second = k; before = h.1; within = omega arith; same = h.2 })
      | inr all ↦ inr (all, d)
    ]
  ]

  bounded : (n k : ℕ) → ((i : ℕ) → i < k → f i < n) → (q : ℕ) → list_any (eqb q) (values k) ≡ true → q < n
  bounded n zero h q m = absurd (true≢false (sym m))
  bounded n (suc k) h q m = by (eqb q (f k)) refl (bounded n k (λ i lt. h i (omega arith)) q)
    where
      by : (b : Bool) → eqb q (f k) ≡ b → (list_any (eqb q) (values k) ≡ true → q < n) → q < n
      by true e rest = let here : f k < n = h k (omega arith) in let same : q ≡ f k = eqb-true q (f k) e in omega arith
      by false e rest = rest (sym (ap (λ b. b || list_any (eqb q) (values k)) e) ∙ m)

  pub repeats : (n : ℕ) → ((i : ℕ) → i ≤ n → f i < n) → Repeats f (suc n)
  repeats n h = elim (distinct_or (suc n)) [
    | inl r ↦ r
    | inr d ↦ let long : length (values (suc n)) ≤ n = length-le_from_distinct_below (values (suc n)) n d (bounded n (suc n) (λ i lt. h i (omega arith))) in
        absurd (omega (arith, length-values (suc n)))
  ]
