-- Lists from a place on.
use Rattle.std.proofs.Common.{◌≡◌, ℕ, zero, suc, ◌+◌, ◌<◌, ◌≤◌, List, [], ◌∷◌, length, drop, slice_get, slice_index_or, Some, refl, sym, ap, subst, arith, add-one}

from_place : {X : Type 0} (xs : List X) (i : ℕ) (x : X) → slice_get xs i ≡ Some x → drop i xs ≡ x ∷ drop (suc i) xs
from_place [] i x e = absurd (cc)
from_place (y ∷ ys) zero x e = let same : y ≡ x = cc in ap (λ y. y ∷ ys) same
from_place (y ∷ ys) (suc i) x e = from_place ys i x e

pub drop_at : {X : Type 0} (xs : List X) (i : ℕ) (x : X) → slice_get xs i ≡ Some x → drop i xs ≡ x ∷ drop (i + 1) xs
drop_at {X} xs i x e = subst (λ (n : ℕ). drop i xs ≡ x ∷ drop n xs) (sym (add-one i)) (from_place xs i x e)

next_place : {X : Type 0} (xs : List X) (i : ℕ) (d : X) → i < length xs → drop i xs ≡ slice_index_or xs i d ∷ drop (suc i) xs
next_place [] i d l = absurd (omega arith)
next_place (y ∷ ys) zero d l = refl
next_place (y ∷ ys) (suc i) d l = next_place ys i d (omega arith)

pub drop_next : {X : Type 0} (xs : List X) (i : ℕ) (d : X) → i < length xs → drop i xs ≡ slice_index_or xs i d ∷ drop (i + 1) xs
drop_next {X} xs i d l = subst (λ (n : ℕ). drop i xs ≡ slice_index_or xs i d ∷ drop n xs) (sym (add-one i)) (next_place xs i d l)

pub drop_end : {X : Type 0} (xs : List X) (i : ℕ) → length xs ≤ i → drop i xs ≡ []
drop_end [] zero l = refl
drop_end [] (suc i) l = refl
drop_end (x ∷ xs) zero l = absurd (omega arith)
drop_end (x ∷ xs) (suc i) l = drop_end xs i (omega arith)

pub placed : {X : Type 0} (xs : List X) (i : ℕ) (x : X) → slice_get xs i ≡ Some x → (i < length xs) × (slice_index_or xs i x ≡ x)
placed [] i x e = absurd (cc)
placed (y ∷ ys) zero x e = let same : y ≡ x = cc in (omega arith, same)
placed (y ∷ ys) (suc i) x e = let r = placed ys i x e in (omega (arith, r.0), r.1)
