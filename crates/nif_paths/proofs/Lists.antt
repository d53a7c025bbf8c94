-- The members of a list before a place, and from it on.
use Rattle.std.proofs.Common.{◌≡◌, ℕ, zero, suc, ◌+◌, Bool, true, false, not, cond, List, [], ◌∷◌, ◌++◌, length, Some, slice_get, get_or, take, drop, ◌<◌, ◌≤◌, refl, sym, ap, ◌∙◌, arith}
use mir.Val.{bool_byte}

-- one more of those in front
pub take-next : {X : Type 0} (xs : List X) (n : ℕ) (x : X) → slice_get xs n ≡ Some x → take (n + 1) xs ≡ take n xs ++ x ∷ []
take-next [] n x e = absurd (cc)
take-next (y ∷ ys) zero x e = let same : y ≡ x = cc in let z : 0 + 1 ≡ suc zero = omega arith in ap (λ m. take m (y ∷ ys)) z ∙ ap (λ v. v ∷ []) same
take-next (y ∷ ys) (suc n) x e = let z : suc n + 1 ≡ suc (n + 1) = omega arith in ap (λ m. take m (y ∷ ys)) z ∙ ap (λ l. y ∷ l) (take-next ys n x e)

-- what is left at a member that is there
pub drop-at : {X : Type 0} (xs : List X) (n : ℕ) (d : X) → n < length xs → drop n xs ≡ get_or xs n d ∷ drop (n + 1) xs
drop-at [] n d lt = absurd (omega arith)
drop-at (y ∷ ys) zero d lt = let z : 0 + 1 ≡ suc zero = omega arith in sym (ap (λ m. y ∷ drop m (y ∷ ys)) z)
drop-at (y ∷ ys) (suc n) d lt = let z : suc n + 1 ≡ suc (n + 1) = omega arith in drop-at ys n d (omega arith) ∙ sym (ap (λ m. get_or ys n d ∷ drop m (y ∷ ys)) z)

pub drop_past : {X : Type 0} (xs : List X) (n : ℕ) → length xs ≤ n → drop n xs ≡ []
drop_past [] zero le = refl
drop_past [] (suc n) le = refl
drop_past (x ∷ xs) zero le = absurd (omega arith)
drop_past (x ∷ xs) (suc n) le = drop_past xs n (omega arith)

-- what `not` tells
pub is_false : (b : Bool) → not b ≡ true → b ≡ false
is_false true e = absurd (cc)
is_false false e = refl

pub is_true : (b : Bool) → not b ≡ false → b ≡ true
is_true true e = refl
is_true false e = absurd (cc)

pub byte-not : (b : Bool) → bool_byte (not b) ≡ cond b 0 1
byte-not true = refl
byte-not false = refl
