-- Two lists, place by place.
use Rattle.std.proofs.Common.{◌≡◌, List, [], ◌∷◌, ◌++◌, refl}
use Rattle.std.specs.List.{AllZip, AllByRecursion}

pub zip_push : {A B : Type 0} (R : A → B → Type 0) (xs : List A) (ys : List B) (x : A) (y : B) → AllZip R xs ys → R x y → AllZip R (xs ++ x ∷ []) (ys ++ y ∷ [])
zip_push R [] [] x y h r = (r, tt)
zip_push R [] (b ∷ ys) x y h r = absurd h
zip_push R (a ∷ xs) [] x y h r = absurd h
zip_push R (a ∷ xs) (b ∷ ys) x y h r = (h.0, zip_push R xs ys x y h.1 r)

pub zip_one : {A B : Type 0} (R : A → B → Type 0) → ((x : A) (y z : B) → R x y → R x z → y ≡ z)
    → (xs : List A) (ys zs : List B) → AllZip R xs ys → AllZip R xs zs → ys ≡ zs
zip_one R one [] [] [] h k = refl
zip_one R one [] [] (c ∷ zs) h k = absurd k
zip_one R one [] (b ∷ ys) zs h k = absurd h
zip_one R one (a ∷ xs) [] zs h k = absurd h
zip_one R one (a ∷ xs) (b ∷ ys) [] h k = absurd k
zip_one R one (a ∷ xs) (b ∷ ys) (c ∷ zs) h k = λ i. one a b c h.0 k.0 i ∷ zip_one R one xs ys zs h.1 k.1 i

pub zip_some : {A B : Type 0} (R : A → B → Type 0) (xs : List A) → AllByRecursion (λ x. (y : B) × R x y) xs → (ys : List B) × AllZip R xs ys
zip_some R [] h = ([], tt)
zip_some R (a ∷ xs) h = let more = zip_some R xs h.1 in (h.0.0 ∷ more.0, (h.0.1, more.1))
