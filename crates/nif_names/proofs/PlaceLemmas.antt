-- The places of names.
use Rattle.std.proofs.Common.{◌≡◌, ℕ, ◌+◌, ◌<◌, ◌≤◌, Bool, true, false, cond, not, ◌||◌, ltb, List, [], ◌∷◌, ◌++◌, length, eqb, Option, Some, None, IfSome, position, bytes_eq, Vec, Global, refl, sym, ap, ◌∙◌, arith}
use Rattle.std.specs.List.{position_or_len, prefix_len, list_any}
use Rattle.std.specs.Map.{lookup, KeepsOthers}
use Rattle.std.specs.Ordering.{is_eq, nat_cmp}
use Rattle.std.specs.Cmp.Lexicographic.{slice_cmp}
use Rattle.std.specs.BTreeMap.{BTreeMap, get_by, UpdatesBy}
use Rattle.std.proofs.lemmas.List.{length-append}
use Rattle.std.proofs.lemmas.List.Folds.{position_or_len_push}
use Rattle.std.proofs.lemmas.List.Sums.{prefix_len-le-length}
use Rattle.std.proofs.lemmas.Map.Text.{is_eq-slice_cmp}
use Rattle.std.proofs.lemmas.Slice.Eq.{bytes_eq-Decides}
use Rattle.std.proofs.lemmas.Bool.{ltb-true, ltb-false}
use Rattle.std.proofs.lemmas.Bool.Decides.{nat_tests}
use Rattle.nif_names.specs.Kept.{ArePlaced}

pub found_at : {X : Type 0} (p : X → Bool) (xs : List X) → IfSome (position p xs) (λ n. n < length xs)
found_at p xs = by (ltb (position_or_len p xs) (length xs)) refl
  where
    by : (b : Bool) → ltb (position_or_len p xs) (length xs) ≡ b → IfSome (cond b (Some (position_or_len p xs)) None) (λ n. n < length xs)
    by true e = ltb-true (position_or_len p xs) (length xs) e
    by false e = tt

-- the place, if it is below the length
place_in : ℕ → ℕ → Option ℕ
place_in n most = cond (ltb n most) (Some n) None

-- one more is found last, where none before it is
place-push : (n len : ℕ) (b : Bool) → n ≤ len → place_in (cond (eqb n len) (len + cond b 0 1) n) (len + 1) ≡ cond (ltb n len) (Some n) (cond b (Some len) None)
unfolding place_in
place-push n len true le = grind (arith, nat_tests)
place-push n len false le = grind (arith, nat_tests)

position-push : {X : Type 0} (p : X → Bool) (xs : List X) (x : X)
    → position p (xs ++ x ∷ []) ≡ cond (ltb (position_or_len p xs) (length xs)) (Some (position_or_len p xs)) (cond (p x) (Some (length xs)) None)
unfolding place_in
position-push p xs x =
    ap (λ n. place_in n (length (xs ++ x ∷ []))) (position_or_len_push p xs x)
    ∙ ap (place_in (cond (eqb (position_or_len p xs) (length xs)) (length xs + cond (p x) 0 1) (position_or_len p xs))) (length-append xs (x ∷ []))
    ∙ place-push (position_or_len p xs) (length xs) (p x) (prefix_len-le-length (λ y. not (p y)) xs)

-- a name is found last where it is the last one, which is new
find-push : (names : List (List ℕ)) (last name : List ℕ) → position (bytes_eq last) names ≡ None
    → position (bytes_eq name) (names ++ last ∷ []) ≡ cond (bytes_eq name last) (Some (length names)) (position (bytes_eq name) names)
find-push names last name new =
    position-push (bytes_eq name) names last
    ∙ by (bytes_eq name last) refl (ltb (position_or_len (bytes_eq name) names) (length names)) refl
  where
    by : (b : Bool) → bytes_eq name last ≡ b → (t : Bool) → ltb (position_or_len (bytes_eq name) names) (length names) ≡ t
        → cond t (Some (position_or_len (bytes_eq name) names)) (cond b (Some (length names)) None) ≡ cond b (Some (length names)) (cond t (Some (position_or_len (bytes_eq name) names)) None)
    by false e true f = refl
    by false e false f = refl
    by true e false f = refl
    by true e true f =
        let same : name ≡ last = grind (arith, bytes_eq-Decides) in
        let here : position (bytes_eq name) names ≡ Some (position_or_len (bytes_eq name) names) = ap (λ t. cond t (Some (position_or_len (bytes_eq name) names)) None) f in
        let none : position (bytes_eq name) names ≡ None = ap (λ n. position (bytes_eq n) names) same ∙ new in
        absurd (cc)

same_of : (one other : List ℕ) → bytes_eq one other ≡ true → one ≡ other
same_of one other e = grind (arith, bytes_eq-Decides)

any_none : {X : Type 0} (p : X → Bool) (xs : List X) → length xs ≤ prefix_len (λ x. not (p x)) xs → list_any p xs ≡ false
any_none p [] le = refl
any_none p (x ∷ xs) le = by (p x) refl (any_none p xs)
  where
    by : (b : Bool) → p x ≡ b → (length xs ≤ prefix_len (λ y. not (p y)) xs → list_any p xs ≡ false) → list_any p (x ∷ xs) ≡ false
    by true e rest = let none : prefix_len (λ y. not (p y)) (x ∷ xs) ≡ 0 = ap (λ b. cond (not b) (1 + prefix_len (λ y. not (p y)) xs) 0) e in absurd (omega arith)
    by false e rest =
        let more : prefix_len (λ y. not (p y)) (x ∷ xs) ≡ 1 + prefix_len (λ y. not (p y)) xs = ap (λ b. cond (not b) (1 + prefix_len (λ y. not (p y)) xs) 0) e in
        ap (λ b. b || list_any p xs) e ∙ rest (omega arith)

pub list_any-none : {X : Type 0} (p : X → Bool) (xs : List X) → position p xs ≡ None → list_any p xs ≡ false
list_any-none p xs e = by (ltb (position_or_len p xs) (length xs)) refl
  where
    by : (b : Bool) → ltb (position_or_len p xs) (length xs) ≡ b → list_any p xs ≡ false
    by true t = let some : position p xs ≡ Some (position_or_len p xs) = ap (λ b. cond b (Some (position_or_len p xs)) None) t in absurd (cc)
    by false t = any_none p xs (ltb-false (position_or_len p xs) (length xs) t)

-- the test of a name holds of the keys of its bytes
one_key : (name : List ℕ) (x y : Vec ℕ Global) → is_eq (slice_cmp nat_cmp name x.items) ≡ true
    → is_eq (slice_cmp nat_cmp name y.items) ≡ is_eq (slice_cmp nat_cmp x.items y.items)
one_key name x y e = ap (λ bytes. is_eq (slice_cmp nat_cmp bytes y.items)) (same_of name x.items (sym (is_eq-slice_cmp name x.items) ∙ e))

-- the tests of two names hold of no key together
apart : (key : Vec ℕ Global) (name : List ℕ) → bytes_eq name key.items ≡ false → (other : Vec ℕ Global)
    → is_eq (slice_cmp nat_cmp key.items other.items) ≡ true → is_eq (slice_cmp nat_cmp name other.items) ≡ false
apart key name e other is =
    let same : key.items ≡ other.items = same_of key.items other.items (sym (is_eq-slice_cmp key.items other.items) ∙ is) in
    is_eq-slice_cmp name other.items ∙ ap (bytes_eq name) (sym same) ∙ e

-- After a name was put to a number, each name has the number that it had, and that name the new one.
lookup-put : (old new : BTreeMap (Vec ℕ Global) ℕ) (key : Vec ℕ Global) (number : ℕ) (name : List ℕ)
    → UpdatesBy (λ x y. slice_cmp nat_cmp x.items y.items) (λ y. slice_cmp nat_cmp key.items y.items) old new (Some number)
    → get_by (λ y. slice_cmp nat_cmp name y.items) new ≡ cond (bytes_eq name key.items) (Some number) (get_by (λ y. slice_cmp nat_cmp name y.items) old)
unfolding KeepsOthers
lookup-put old new key number name updates = by (bytes_eq name key.items) refl
  where
    by : (b : Bool) → bytes_eq name key.items ≡ b
        → get_by (λ y. slice_cmp nat_cmp name y.items) new ≡ cond b (Some number) (get_by (λ y. slice_cmp nat_cmp name y.items) old)
    by true e =
        let same : name ≡ key.items = same_of name key.items e in
        ap (λ bytes. get_by (λ (y : Vec ℕ Global). slice_cmp nat_cmp bytes y.items) new) same ∙ updates.1
    by false e = updates.3 (λ y. is_eq (slice_cmp nat_cmp name y.items)) (one_key name) (apart key name e)

pub ArePlaced-none : (names : List (List ℕ)) (places : BTreeMap (Vec ℕ Global) ℕ) → names ≡ [] → places.entries ≡ [] → ArePlaced names places
ArePlaced-none names places none empty = λ name.
    ap (lookup (λ (y : Vec ℕ Global). is_eq (slice_cmp nat_cmp name y.items))) empty ∙ ap (position (bytes_eq name)) (sym none)

pub ArePlaced-push : (names : List (List ℕ)) (last : List ℕ) (old new : BTreeMap (Vec ℕ Global) ℕ) (key : Vec ℕ Global)
    → ArePlaced names old → key.items ≡ last → position (bytes_eq last) names ≡ None
    → UpdatesBy (λ x y. slice_cmp nat_cmp x.items y.items) (λ y. slice_cmp nat_cmp key.items y.items) old new (Some (length names))
    → ArePlaced (names ++ last ∷ []) new
ArePlaced-push names last old new key placed same none updates = λ name.
    lookup-put old new key (length names) name updates
    ∙ ap (λ bytes. cond (bytes_eq name bytes) (Some (length names)) (get_by (λ (y : Vec ℕ Global). slice_cmp nat_cmp name y.items) old)) same
    ∙ ap (cond (bytes_eq name last) (Some (length names))) (placed name)
    ∙ sym (find-push names last name none)
