-- What holds of each place of a list.
use Rattle.std.proofs.Common.{set, ◌⊎◌, inl, inr, ◌≡◌, ℕ, zero, suc, ◌+◌, List, [], ◌∷◌, ◌<◌, length, Some, slice_get, drop, ap, arith, refl, ◌++◌, ◌≤◌, take, ◌∙◌}

-- one more of those in front
pub take-next : {X : Type 0} (xs : List X) (n : ℕ) (x : X) → slice_get xs n ≡ Some x → take (n + 1) xs ≡ take n xs ++ x ∷ []
take-next [] n x e = absurd (cc)
take-next (y ∷ ys) zero x e = let same : y ≡ x = cc in let z : 0 + 1 ≡ suc zero = omega arith in ap (λ m. take m (y ∷ ys)) z ∙ ap (λ v. v ∷ []) same
take-next (y ∷ ys) (suc n) x e = let z : suc n + 1 ≡ suc (n + 1) = omega arith in ap (λ m. take m (y ∷ ys)) z ∙ ap (λ l. y ∷ l) (take-next ys n x e)

-- what is left behind all members
pub drop_past : {X : Type 0} (xs : List X) (n : ℕ) → length xs ≤ n → drop n xs ≡ []
drop_past [] zero le = refl
drop_past [] (suc n) le = refl
drop_past (x ∷ xs) zero le = absurd (omega arith)
drop_past (x ∷ xs) (suc n) le = drop_past xs n (omega arith)

-- what is left at a member that was got
pub drop-next : {X : Type 0} (xs : List X) (n : ℕ) (x : X) → slice_get xs n ≡ Some x → drop n xs ≡ x ∷ drop (n + 1) xs
drop-next [] n x e = absurd (cc)
drop-next (y ∷ ys) zero x e = cc
drop-next (y ∷ ys) (suc n) x e = let z : suc n + 1 ≡ suc (n + 1) = omega arith in rw z (drop-next ys n x e)

-- a place that is written
pub set-get : {X : Type 0} (xs : List X) (n : ℕ) (y : X) (k : ℕ) (z : X) → slice_get (set xs n y) k ≡ Some z
    → ((k ≡ n) × (y ≡ z)) ⊎ ((k ≡ n → ⊥) × (slice_get xs k ≡ Some z))
set-get [] n y k z e = absurd (cc)
set-get (x ∷ xs) zero y zero z e = inl (refl, (let h : y ≡ z = cc in h))
set-get (x ∷ xs) zero y (suc k) z e = inr ((λ h. omega (arith, h)), e)
set-get (x ∷ xs) (suc n) y zero z e = inr ((λ h. omega (arith, h)), e)
set-get (x ∷ xs) (suc n) y (suc k) z e = elim (set-get xs n y k z e) [
  | inl (a, b) ↦ inl (ap suc a, b)
  | inr (a, b) ↦ inr ((λ h. a (omega (arith, h))), b)
]

pub set-here : {X : Type 0} (xs : List X) (n : ℕ) (y : X) → n < length xs → slice_get (set xs n y) n ≡ Some y
set-here [] n y lt = absurd (omega (arith, lt))
set-here (x ∷ xs) zero y lt = refl
set-here (x ∷ xs) (suc n) y lt = set-here xs n y (omega (arith, lt))

pub set-other : {X : Type 0} (xs : List X) (n : ℕ) (y : X) (k : ℕ) → (n ≡ k → ⊥) → slice_get (set xs n y) k ≡ slice_get xs k
set-other [] n y k other = refl
set-other (x ∷ xs) zero y zero other = absurd (other refl)
set-other (x ∷ xs) zero y (suc k) other = refl
set-other (x ∷ xs) (suc n) y zero other = refl
set-other (x ∷ xs) (suc n) y (suc k) other = set-other xs n y k (λ same. other (ap suc same))

pub same-or-other : (n k : ℕ) → (n ≡ k) ⊎ (n ≡ k → ⊥)
same-or-other zero zero = inl refl
same-or-other zero (suc k) = inr (λ e. omega (arith, e))
same-or-other (suc n) zero = inr (λ e. omega (arith, e))
same-or-other (suc n) (suc k) = elim (same-or-other n k) [ inl e ↦ inl (ap suc e) | inr f ↦ inr (λ e. f (omega (arith, e))) ]
