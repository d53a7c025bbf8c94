-- What stands at a place of a list, and what is left of the list there.
use Rattle.std.proofs.Common.{◌≡◌, ◌≢◌, ℕ, zero, suc, ◌+◌, ◌<◌, ◌≤◌, Bool, ◌||◌, List, [], ◌∷◌, ◌++◌, length, map, set, drop, Option, Some, None, slice_get, Contains, refl, sym, ap, ◌∙◌, arith}
use Rattle.std.specs.List.{list_any}
use Rattle.std.specs.Option.{option_map}
use Rattle.std.proofs.lemmas.Option.{slice_get-map, slice_get_within, get_or_from_slice_get, slice_get-get_or}

-- what is left at a member that is there
pub drop-at : {A : Type 0} (xs : List A) (n : ℕ) (x : A) → slice_get xs n ≡ Some x → drop n xs ≡ x ∷ drop (n + 1) xs
drop-at [] n x e = absurd (cc)
drop-at (y ∷ ys) zero x e = cc
drop-at (y ∷ ys) (suc n) x e = let z : suc n + 1 ≡ suc (n + 1) = omega arith in rw z (drop-at ys n x e)

-- behind the last
pub drop_past : {A : Type 0} (xs : List A) (n : ℕ) → length xs ≤ n → drop n xs ≡ []
drop_past [] zero le = refl
drop_past [] (suc n) le = refl
drop_past (x ∷ xs) zero le = absurd (omega arith)
drop_past (x ∷ xs) (suc n) le = drop_past xs n (omega arith)

-- whether one of those that are left passes a test, when the next one is looked at
pub any-at : {A B : Type 0} (test : B → Bool) (f : A → B) (xs : List A) (n : ℕ) (x : A) → slice_get xs n ≡ Some x
    → list_any test (map f (drop n xs)) ≡ test (f x) || list_any test (map f (drop (n + 1) xs))
any-at test f xs n x e = ap (λ l. list_any test (map f l)) (drop-at xs n x e)

-- the places of a longer list
pub get-front : {A : Type 0} (xs ys : List A) (k : ℕ) → k < length xs → slice_get (xs ++ ys) k ≡ slice_get xs k
get-front [] ys k lt = absurd (omega arith)
get-front (x ∷ xs) ys zero lt = refl
get-front (x ∷ xs) ys (suc k) lt = get-front xs ys k (omega arith)

pub get-last : {A : Type 0} (xs : List A) (y : A) → slice_get (xs ++ y ∷ []) (length xs) ≡ Some y
get-last [] y = refl
get-last (x ∷ xs) y = get-last xs y

-- a place that is written
pub get-set_same : {A : Type 0} (xs : List A) (k : ℕ) (y : A) → k < length xs → slice_get (set xs k y) k ≡ Some y
get-set_same [] k y lt = absurd (omega arith)
get-set_same (x ∷ xs) zero y lt = refl
get-set_same (x ∷ xs) (suc k) y lt = get-set_same xs k y (omega arith)

pub get-set_other : {A : Type 0} (xs : List A) (k j : ℕ) (y : A) → j ≢ k → slice_get (set xs k y) j ≡ slice_get xs j
get-set_other [] k j y other = refl
get-set_other (x ∷ xs) zero zero y other = absurd (other refl)
get-set_other (x ∷ xs) zero (suc j) y other = refl
get-set_other (x ∷ xs) (suc k) zero y other = refl
get-set_other (x ∷ xs) (suc k) (suc j) y other = get-set_other xs k j y (λ e. other (ap suc e))

-- members and their places
pub contains : {A : Type 0} (xs : List A) (k : ℕ) (x : A) → slice_get xs k ≡ Some x → Contains xs x
contains xs k x e = (k, slice_get_within xs k x e, get_or_from_slice_get xs k x x e)

pub place_of : {A : Type 0} (xs : List A) (x : A) → Contains xs x → (k : ℕ) × (slice_get xs k ≡ Some x)
place_of xs x c = (c.0, slice_get-get_or xs c.0 x c.1 ∙ ap (λ y. Some y) c.2)

-- members of a list that is made of another
pub contains-map : {A B : Type 0} (f : A → B) (xs : List A) (x : A) → Contains xs x → Contains (map f xs) (f x)
contains-map f xs x c = let p = place_of xs x c in contains (map f xs) p.0 (f x) (slice_get-map f xs p.0 ∙ ap (option_map f) p.1)

map-contains : {A B : Type 0} (f : A → B) (y : B) (o : Option A) → option_map f o ≡ Some y → (x : A) × (o ≡ Some x) × (f x ≡ y)
map-contains f y None e = absurd (cc)
map-contains f y (Some x) e = (x, refl, cc)

pub contained-map : {A B : Type 0} (f : A → B) (xs : List A) (y : B) → Contains (map f xs) y → (x : A) × Contains xs x × (f x ≡ y)
contained-map f xs y c =
    let p = place_of (map f xs) y c in
    let m = map-contains f y (slice_get xs p.0) (sym (slice_get-map f xs p.0) ∙ p.1) in (m.0, contains xs p.0 m.0 m.1, m.2)
