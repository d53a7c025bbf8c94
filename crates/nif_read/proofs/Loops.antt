-- Loops over children of which some are kept.
use Rattle.std.proofs.Common.{◌≡◌, ℕ, ◌+◌, ◌<◌, ◌≤◌, Bool, true, false, cond, List, [], ◌∷◌, ◌++◌, length, take, drop, get_or, refl, sym, ap, ◌∙◌, subst, arith, append-nil, length-append}
use Rattle.std.specs.Prelude.{map, ◌||◌}
use Rattle.std.specs.List.{list_any, filter, AllZip}
use Rattle.std.proofs.lemmas.List.{drop_more, take_more, take_all, drop_all}
use Rattle.std.proofs.lemmas.List.Elements.{filter-append}
use Rattle.nif_read.proofs.Zips.{zip_push}

pub at : {A : Type 0} (xs : List A) (i : ℕ) (x : A) → i < length xs → x ≡ get_or xs i x → drop i xs ≡ x ∷ drop (i + 1) xs
at xs i x h e = drop_more xs i x h ∙ ap (λ y. y ∷ drop (i + 1) xs) (sym e)

pub upto : {A : Type 0} (xs : List A) (i : ℕ) (x : A) → i < length xs → x ≡ get_or xs i x → take (i + 1) xs ≡ take i xs ++ x ∷ []
upto xs i x h e = take_more xs i x h ∙ ap (λ y. take i xs ++ y ∷ []) (sym e)

-- Items were made of the kept ones among the first i children, none of which lacks anything.
pub record SoFar {A B : Type 0} (keeps lacks : A → Bool) (R : A → B → Type 0) (children : List A) (i : ℕ) (items : List B) : Type 0 where
  pub rest : list_any lacks (filter keeps children) ≡ list_any lacks (filter keeps (drop i children))
  pub done : AllZip R (filter keeps (take i children)) items
  pub few : length items ≤ i

kept-more : {A : Type 0} (keeps : A → Bool) (xs : List A) (i : ℕ) (x : A) (b : Bool) → i < length xs → x ≡ get_or xs i x → keeps x ≡ b
    → filter keeps (take (i + 1) xs) ≡ filter keeps (take i xs) ++ cond b (x ∷ []) []
kept-more keeps xs i x b h e k =
    ap (filter keeps) (upto xs i x h e) ∙ filter-append keeps (take i xs) (x ∷ []) ∙ ap (λ c. filter keeps (take i xs) ++ cond c (x ∷ []) []) k

kept-rest : {A : Type 0} (keeps : A → Bool) (xs : List A) (i : ℕ) (x : A) (b : Bool) → i < length xs → x ≡ get_or xs i x → keeps x ≡ b
    → filter keeps (drop i xs) ≡ cond b (x ∷ filter keeps (drop (i + 1) xs)) (filter keeps (drop (i + 1) xs))
kept-rest keeps xs i x b h e k =
    ap (filter keeps) (at xs i x h e) ∙ ap (λ c. cond c (x ∷ filter keeps (drop (i + 1) xs)) (filter keeps (drop (i + 1) xs))) k

pub skipped : {A B : Type 0} (keeps lacks : A → Bool) (R : A → B → Type 0) (children : List A) (i : ℕ) (items : List B) (x : A)
    → i < length children → x ≡ get_or children i x → keeps x ≡ false
    → SoFar keeps lacks R children i items → SoFar keeps lacks R children (i + 1) items
skipped keeps lacks R children i items x h e k s = record {
  rest = s.rest ∙ ap (list_any lacks) (kept-rest keeps children i x false h e k);
  done = subst (λ (xs : List _). AllZip R xs items) (sym (kept-more keeps children i x false h e k ∙ append-nil (filter keeps (take i children)))) s.done;
  few = omega (arith, s.few);
}

pub pushed : {A B : Type 0} (keeps lacks : A → Bool) (R : A → B → Type 0) (children : List A) (i : ℕ) (items : List B) (x : A) (item : B)
    → i < length children → x ≡ get_or children i x → keeps x ≡ true → lacks x ≡ false → R x item
    → SoFar keeps lacks R children i items → SoFar keeps lacks R children (i + 1) (items ++ item ∷ [])
pushed keeps lacks R children i items x item h e k l r s = record {
  rest = s.rest ∙ ap (list_any lacks) (kept-rest keeps children i x true h e k) ∙ ap (λ b. b || list_any lacks (filter keeps (drop (i + 1) children))) l;
  done = subst (λ (xs : List _). AllZip R xs (items ++ item ∷ [])) (sym (kept-more keeps children i x true h e k)) (zip_push R (filter keeps (take i children)) items x item s.done r);
  few = omega (arith, s.few, length-append items (item ∷ []));
}

pub stopped : {A B : Type 0} (keeps lacks : A → Bool) (R : A → B → Type 0) (children : List A) (i : ℕ) (items : List B) (x : A)
    → i < length children → x ≡ get_or children i x → keeps x ≡ true → lacks x ≡ true
    → SoFar keeps lacks R children i items → list_any lacks (filter keeps children) ≡ true
stopped keeps lacks R children i items x h e k l s =
    s.rest ∙ ap (list_any lacks) (kept-rest keeps children i x true h e k) ∙ ap (λ b. b || list_any lacks (filter keeps (drop (i + 1) children))) l

pub none_lacks : {A B : Type 0} (keeps lacks : A → Bool) (R : A → B → Type 0) (children : List A) (i : ℕ) (items : List B)
    → length children ≤ i → SoFar keeps lacks R children i items → list_any lacks (filter keeps children) ≡ false
none_lacks keeps lacks R children i items h s = s.rest ∙ ap (λ xs. list_any lacks (filter keeps xs)) (drop_all i children h)

pub all_done : {A B : Type 0} (keeps lacks : A → Bool) (R : A → B → Type 0) (children : List A) (i : ℕ) (items : List B)
    → length children ≤ i → SoFar keeps lacks R children i items → AllZip R (filter keeps children) items
all_done keeps lacks R children i items h s = subst (λ (xs : List _). AllZip R (filter keeps xs) items) (take_all i children h) s.done

-- the same with the items seen as something else
pub zip_map : {A B C : Type 0} (R : A → C → Type 0) (g : B → C) (xs : List A) (ys : List B) → AllZip (λ x y. R x (g y)) xs ys → AllZip R xs (map g ys)
zip_map R g [] [] h = tt
zip_map R g [] (y ∷ ys) h = absurd h
zip_map R g (x ∷ xs) [] h = absurd h
zip_map R g (x ∷ xs) (y ∷ ys) h = (h.0, zip_map R g xs ys h.1)

pub mapped : {A B : Type 0} (g : A → B) (xs : List A) (ys : List B) → AllZip (λ x y. g x ≡ y) xs ys → map g xs ≡ ys
mapped g [] [] h = refl
mapped g [] (y ∷ ys) h = absurd h
mapped g (x ∷ xs) [] h = absurd h
mapped g (x ∷ xs) (y ∷ ys) h = λ i. h.0 i ∷ mapped g xs ys h.1 i
