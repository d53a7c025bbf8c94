-- The types in sets.
use Rattle.std.proofs.Common.{◌≡◌, ◌↔◌, ℕ, zero, suc, ◌+◌, ◌<◌, ◌≤◌, ◌⊎◌, List, [], ◌∷◌, ◌++◌, length, map, take, drop, flat_map, fold, get_or, slice_get, Contains, Some, inl, inr, refl, sym, ap, subst, ◌∙◌, arith}
use Rattle.std.specs.List.{All}
use Rattle.std.proofs.lemmas.Grind.{flat_map-append}
use Rattle.std.proofs.lemmas.List.{append-nil, append_assoc, get_or_append_left, get_or_push, length-append, length-take-le}
use Rattle.std.proofs.lemmas.List.Sums.{fold-append}
use Rattle.std.proofs.lemmas.List.Elements.{All-contains, All-contains_itself, All-weaker, Contains-append_left, Contains-append_right, Contains-append_cases}
use Rattle.std.proofs.lemmas.Option.{slice_get_within}
use Rattle.nif_sets.specs.Sets.{Sets, members, all_members, types_in, IsBelow, IsGrown}
use Rattle.nif_sets.specs.Kept.{AreBefore}
use Rattle.nif_sets.specs.declared.sets.TypeSet.{TypeSet}
use Rattle.nif_sets.specs.declared.sets.TypeSet.TheVariants.{One, Joined}

step : List (List ℕ) → List TypeSet → List (List ℕ)
step before own = before ++ flat_map (members before) own ∷ []

-- a list up to a place, the element there, and the rest
split-at : {X : Type 0} (xs : List X) (n : ℕ) (x : X) → slice_get xs n ≡ Some x → xs ≡ take n xs ++ x ∷ drop (suc n) xs
split-at [] n x e = absurd (cc)
split-at (y ∷ xs) zero x e = let h : y ≡ x = cc in ap (λ z. z ∷ xs) h
split-at (y ∷ xs) (suc n) x e = ap (λ l. y ∷ l) (split-at xs n x e)

-- what is in a list of lists
module _ {X Y : Type 0} (f : X → List Y) where
  pub flat-in : (xs : List X) (x : X) (y : Y) → Contains xs x → Contains (f x) y → Contains (flat_map f xs) y
  flat-in [] x y there own = absurd (omega (arith, there.1))
  flat-in (z ∷ xs) x y there own = elim (Contains-append_cases (z ∷ []) xs x there) [
    | inl here ↦ Contains-append_left (f z) (flat_map f xs) y (subst (λ w. Contains (f w) y) (sym (alone z x here)) own)
    | inr later ↦ Contains-append_right (f z) (flat_map f xs) y (flat-in xs x y later own)
  ]
    where
      alone : (a b : X) → Contains (a ∷ []) b → a ≡ b
      alone a b h = let n : h.0 ≡ 0 = omega (arith, h.1) in sym (ap (λ i. get_or (a ∷ []) i b) n) ∙ h.2

  pub flat-out : (xs : List X) (y : Y) → Contains (flat_map f xs) y → (x : X) × Contains xs x × Contains (f x) y
  flat-out [] y there = absurd (omega (arith, there.1))
  flat-out (z ∷ xs) y there = elim (Contains-append_cases (f z) (flat_map f xs) y there) [
    | inl here ↦ (z, (0, omega arith, refl), here)
    | inr later ↦ let r = flat-out xs y later in (r.0, Contains-append_right (z ∷ []) xs r.0 r.1, r.2)
  ]

  -- lists of the same elements
  pub flat-same : (xs ys : List X) → ((x : X) → Contains xs x ↔ Contains ys x) → (y : Y) → Contains (flat_map f xs) y ↔ Contains (flat_map f ys) y
  flat-same xs ys same y = (
    (λ h. let r = flat-out xs y h in flat-in ys r.0 y ((same r.0).0 r.1) r.2),
    (λ h. let r = flat-out ys y h in flat-in xs r.0 y ((same r.0).1 r.1) r.2),
  )

pub flat_map-agree : {X Y : Type 0} (f g : X → List Y) (xs : List X) → ((x : X) → Contains xs x → f x ≡ g x) → flat_map f xs ≡ flat_map g xs
flat_map-agree f g [] same = refl
flat_map-agree f g (x ∷ xs) same =
    ap (λ l. l ++ flat_map f xs) (same x (0, omega arith, refl))
    ∙ ap (λ l. g x ++ l) (flat_map-agree f g xs (λ z h. same z (Contains-append_right (x ∷ []) xs z h)))

pub All-among : {X : Type 0} (P : X → Type 0) (xs ys : List X) → ((x : X) → Contains xs x → Contains ys x) → All P ys → All P xs
All-among P xs ys among all = All-weaker (Contains xs) P (λ x h. All-contains P ys x all (among x h)) xs (All-contains_itself xs)

pub IsBelow-more : (m n : ℕ) (set : TypeSet) → m ≤ n → IsBelow m set → IsBelow n set
IsBelow-more m n (One number) le h = tt
IsBelow-more m n (Joined number) le h = omega (arith, le, h)

-- what was in the joined sets stays, whatever is joined later
length-step : (before : List (List ℕ)) (own : List TypeSet) → length (step before own) ≡ length before + 1
unfolding step
length-step before own = length-append before (flat_map (members before) own ∷ [])

get-step : (before : List (List ℕ)) (own : List TypeSet) (n : ℕ) → n < length before → get_or (step before own) n [] ≡ get_or before n []
unfolding step
get-step before own n lt = get_or_append_left before (flat_map (members before) own ∷ []) [] n lt

length-fold : (before : List (List ℕ)) (parts : List (List TypeSet)) → length (fold step before parts) ≡ length before + length parts
length-fold before [] = omega arith
length-fold before (own ∷ parts) =
    let h = length-fold (step before own) parts in
    let l = length-step before own in omega (arith, h, l)

get-kept : (before : List (List ℕ)) (parts : List (List TypeSet)) (n : ℕ) → n < length before → get_or (fold step before parts) n [] ≡ get_or before n []
get-kept before [] n lt = refl
get-kept before (own ∷ parts) n lt =
    get-kept (step before own) parts n (let l = length-step before own in omega (arith, l, lt)) ∙ get-step before own n lt

members-kept : (before : List (List ℕ)) (parts : List (List TypeSet)) (set : TypeSet) → IsBelow (length before) set → members (fold step before parts) set ≡ members before set
members-kept before parts (One number) h = refl
members-kept before parts (Joined number) h = get-kept before parts number h

length-members : (parts : List (List TypeSet)) → length (all_members parts) ≡ length parts
unfolding step
length-members parts = let h = length-fold [] parts in omega (arith, h)

pub types-kept : (parts more : List (List TypeSet)) (set : TypeSet) → IsBelow (length parts) set → types_in (parts ++ more) set ≡ types_in parts set
unfolding types_in step
types-kept parts more set h =
    ap (λ j. members j set) (fold-append step [] parts more)
    ∙ members-kept (all_members parts) more set (subst (λ n. IsBelow n set) (sym (length-members parts)) h)

types-last : (parts : List (List TypeSet)) (own : List TypeSet) (n : ℕ) → length parts ≡ n → types_in (parts ++ own ∷ []) (Joined n) ≡ flat_map (types_in parts) own
unfolding types_in step
types-last parts own n is =
    ap (λ j. members j (Joined n)) (fold-append step [] parts (own ∷ []))
    ∙ get_or_push (all_members parts) (flat_map (members (all_members parts)) own) [] n (length-members parts ∙ is)

-- the types in a joined set are those in its parts
pub types-joined : (parts : List (List TypeSet)) (number : ℕ) (own : List TypeSet) → AreBefore parts → slice_get parts number ≡ Some own
    → types_in parts (Joined number) ≡ flat_map (types_in parts) own
types-joined parts number own before at =
    let front = take number parts in
    let rest = drop (suc number) parts in
    let within = slice_get_within parts number own at in
    let count : length front ≡ number = length-take-le number parts (omega (arith, within)) in
    let whole : parts ≡ front ++ own ∷ rest = split-at parts number own at in
    let again : parts ≡ (front ++ own ∷ []) ++ rest = whole ∙ sym (append_assoc front (own ∷ []) rest) in
    let longer : number < length (front ++ own ∷ []) = let l = length-append front (own ∷ []) in omega (arith, l, count) in
    ap (λ p. types_in p (Joined number)) again
    ∙ types-kept (front ++ own ∷ []) rest (Joined number) longer
    ∙ types-last front own number count
    ∙ flat_map-agree (types_in front) (types_in parts) own
    (λ part there. sym (ap (λ p. types_in p part) whole ∙ types-kept front (own ∷ rest) part (subst (λ n. IsBelow n part) (sym count) (before number own part at there))))

-- a member of a list with one more at its end
get-push : {X : Type 0} (xs : List X) (y : X) (k : ℕ) (z : X) → slice_get (xs ++ y ∷ []) k ≡ Some z → (slice_get xs k ≡ Some z) ⊎ ((k ≡ length xs) × (y ≡ z))
get-push [] y zero z e = inr (refl, (let h : y ≡ z = cc in h))
get-push [] y (suc k) z e = absurd (cc)
get-push (x ∷ xs) y zero z e = inl e
get-push (x ∷ xs) y (suc k) z e = elim (get-push xs y k z e) [
  | inl h ↦ inl h
  | inr (a, b) ↦ inr ((let n : suc k ≡ length (x ∷ xs) = omega (arith, a) in n), b)
]

pub AreBefore-push : (parts : List (List TypeSet)) (own : List TypeSet) → AreBefore parts → All (IsBelow (length parts)) own → AreBefore (parts ++ own ∷ [])
AreBefore-push parts own before all place of part at there = elim (get-push parts own place of at) [
  | inl h ↦ before place of part h there
  | inr (a, b) ↦ subst (λ n. IsBelow n part) (sym a) (All-contains (IsBelow (length parts)) own part all (subst (λ l. Contains l part) (sym b) there))
]

pub IsGrown-append : (old new : Sets) (more : List (List TypeSet)) → new.parts ≡ old.parts ++ more → IsGrown old new
IsGrown-append old new more is set there = (
  IsBelow-more (length old.parts) (length new.parts) set (let l = ap length is ∙ length-append old.parts more in omega (arith, l)) there,
  ap (λ p. types_in p set) is ∙ types-kept old.parts more set there,
)

pub IsGrown-same : (old new : Sets) → new.parts ≡ old.parts → IsGrown old new
IsGrown-same old new is set there = (subst (λ p. IsBelow (length p) set) (sym is) there, ap (λ p. types_in p set) is)

pub IsGrown-then : (first second third : Sets) → IsGrown first second → IsGrown second third → IsGrown first third
IsGrown-then first second third one two set there =
    let a = one set there in
    let b = two set a.0 in (b.0, b.1 ∙ a.1)

-- the types in single types
pub types-ones : (parts : List (List TypeSet)) (types : List ℕ) → flat_map (types_in parts) (map One types) ≡ types
unfolding types_in
types-ones parts [] = refl
types-ones parts (number ∷ types) = ap (λ l. number ∷ l) (types-ones parts types)

-- how deep a set may lie
abbrev pub rank : TypeSet → ℕ
rank (One number) = 0
rank (Joined number) = number + 1

pub rank-below : (count : ℕ) (set : TypeSet) → IsBelow count set → rank set ≤ count
rank-below count (One number) h = omega arith
rank-below count (Joined number) h = omega (arith, h)

pub flat-push : {X Y : Type 0} (f : X → List Y) (xs : List X) (x : X) → flat_map f (xs ++ x ∷ []) ≡ flat_map f xs ++ f x
flat-push f xs x = flat_map-append f xs (x ∷ []) ∙ ap (λ l. flat_map f xs ++ l) (append-nil (f x))
