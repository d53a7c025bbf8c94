-- The references of a node whose targets change, and what of it does not change.
use Rattle.std.proofs.Common.{◌≡◌, inl, inr, ℕ, zero, suc, ◌+◌, ◌-◌, ◌<◌, ◌≤◌, Option, List, [], ◌∷◌, ◌++◌, map, length, refl, sym, ◌∙◌, ap, ap₂, arith, length-append}
use Rattle.std.proofs.lemmas.Bool.{eqb-true, eqb-false, eq-eqb, ltb-true, ltb-false}
use Rattle.std.proofs.lemmas.List.{map-append}
use Rattle.std.specs.Prelude.{◌==◌, if◌then◌else◌, nat_lt, option_and_then, slice_get}
use Rattle.std.specs.Option.{option_map}
use Rattle.nif_base.specs.Node.{Node, Members, Num, Line, Ref, Text, Bytes, Group, Row, End, Here, Absent, Reference, refs, refs_in, retargeted, retargeted_in}
use Rattle.nif_cells.specs.Building.{with_target, with_target_in}
use Rattle.nif_edit.proofs.Finding.{test, differ}

abbrev pub aimed : (ℕ → Option ℕ) → Reference → Reference
aimed f r = record r { target = option_and_then f r.target }

mutual
  pub refs-retargeted : (f : ℕ → Option ℕ) (node : Node) → refs (retargeted f node) ≡ map (aimed f) (refs node)
  refs-retargeted f (Num width little bits) = refl
  refs-retargeted f (Line bytes) = refl
  refs-retargeted f (Ref strong wanted target) = refl
  refs-retargeted f (Text index) = refl
  refs-retargeted f (Bytes bytes) = refl
  refs-retargeted f (Group members) = refs_in-retargeted f members
  refs-retargeted f (Row items) = refs_in-retargeted f items

  refs_in-retargeted : (f : ℕ → Option ℕ) (members : Members) → refs_in (retargeted_in f members) ≡ map (aimed f) (refs_in members)
  refs_in-retargeted f End = refl
  refs_in-retargeted f (Here node rest) =
      ap₂ (λ x y. x ++ y) (refs-retargeted f node) (refs_in-retargeted f rest) ∙ sym (map-append (aimed f) (refs node) (refs_in rest))
  refs_in-retargeted f (Absent rest) = refs_in-retargeted f rest

-- another target at one place of a list
abbrev pub pointed : ℕ → Option ℕ → List Reference → List Reference
pointed k to [] = []
pointed zero to (r ∷ rs) = record r { target = to } ∷ rs
pointed (suc k) to (r ∷ rs) = r ∷ pointed k to rs

pub length-pointed : (k : ℕ) (to : Option ℕ) (rs : List Reference) → length (pointed k to rs) ≡ length rs
length-pointed k to [] = refl
length-pointed zero to (r ∷ rs) = refl
length-pointed (suc k) to (r ∷ rs) = ap suc (length-pointed k to rs)

pointed_front : (k : ℕ) (to : Option ℕ) (xs ys : List Reference) → k < length xs → pointed k to (xs ++ ys) ≡ pointed k to xs ++ ys
pointed_front k to [] ys h = absurd (omega arith)
pointed_front zero to (r ∷ xs) ys h = refl
pointed_front (suc k) to (r ∷ xs) ys h = ap (λ l. r ∷ l) (pointed_front k to xs ys (omega arith))

pointed_back : (k j : ℕ) (to : Option ℕ) (xs ys : List Reference) → k ≡ length xs + j → pointed k to (xs ++ ys) ≡ xs ++ pointed j to ys
pointed_back k j to [] ys h = ap (λ n. pointed n to ys) (omega arith)
pointed_back zero j to (r ∷ xs) ys h = absurd (omega arith)
pointed_back (suc k) j to (r ∷ xs) ys h = ap (λ l. r ∷ l) (pointed_back k j to xs ys (omega arith))

mutual
  pub refs-with_target : (k : ℕ) (to : Option ℕ) (node : Node) → k < length (refs node) → refs (with_target k to node) ≡ pointed k to (refs node)
  refs-with_target k to (Num width little bits) h = absurd (omega arith)
  refs-with_target k to (Line bytes) h = absurd (omega arith)
  refs-with_target zero to (Ref strong wanted target) h = refl
  refs-with_target (suc k) to (Ref strong wanted target) h = absurd (omega arith)
  refs-with_target k to (Text index) h = absurd (omega arith)
  refs-with_target k to (Bytes bytes) h = absurd (omega arith)
  refs-with_target k to (Group members) h = refs_in-with_target k to members h
  refs-with_target k to (Row items) h = refs_in-with_target k to items h

  refs_in-with_target : (k : ℕ) (to : Option ℕ) (members : Members) → k < length (refs_in members) → refs_in (with_target_in k to members) ≡ pointed k to (refs_in members)
  refs_in-with_target k to End h = absurd (omega arith)
  refs_in-with_target k to (Here node rest) h =
      elim (test (nat_lt k (length (refs node)))) [
        | inl q ↦
            let lt : k < length (refs node) = ltb-true k (length (refs node)) q in
            rw q (ap (λ l. l ++ refs_in rest) (refs-with_target k to node lt) ∙ sym (pointed_front k to (refs node) (refs_in rest) lt))
        | inr q ↦
            let ge : length (refs node) ≤ k = ltb-false k (length (refs node)) q in
            let lt : k - length (refs node) < length (refs_in rest) = omega (arith, length-append (refs node) (refs_in rest)) in
            rw q (ap (λ l. refs node ++ l) (refs_in-with_target (k - length (refs node)) to rest lt)
            ∙ sym (pointed_back k (k - length (refs node)) to (refs node) (refs_in rest) (omega arith)))
      ]
  refs_in-with_target k to (Absent rest) h = refs_in-with_target k to rest h

-- what stands at a place of such a list
pub at-pointed : (k j : ℕ) (to : Option ℕ) (rs : List Reference)
    → slice_get (pointed k to rs) j ≡ (if j == k then option_map (λ (r : Reference). record r { target = to }) (slice_get rs j) else slice_get rs j)
at-pointed k j to [] = elim (test (j == k)) [ inl q ↦ rw q refl | inr q ↦ rw q refl ]
at-pointed zero zero to (r ∷ rs) = refl
at-pointed zero (suc j) to (r ∷ rs) = rw (differ (suc j) 0 (λ e. omega arith)) refl
at-pointed (suc k) zero to (r ∷ rs) = rw (differ 0 (suc k) (λ e. omega arith)) refl
at-pointed (suc k) (suc j) to (r ∷ rs) =
    elim (test (j == k)) [
      | inl q ↦ rw (eq-eqb (suc j) (suc k) (ap suc (eqb-true j k q))) (rw q at (at-pointed k j to rs))
      | inr q ↦ rw (differ (suc j) (suc k) (λ e. eqb-false j k q (omega arith))) (rw q at (at-pointed k j to rs))
    ]

-- Each target stays.
abbrev pub Stay : (ℕ → Option ℕ) → List Reference → Type 0
Stay f [] = Unit {0}
Stay f (r ∷ rs) = (option_and_then f r.target ≡ r.target) × Stay f rs

stay_front : (f : ℕ → Option ℕ) (xs ys : List Reference) → Stay f (xs ++ ys) → Stay f xs
stay_front f [] ys h = tt
stay_front f (r ∷ xs) ys h = (h.0, stay_front f xs ys h.1)

stay_back : (f : ℕ → Option ℕ) (xs ys : List Reference) → Stay f (xs ++ ys) → Stay f ys
stay_back f [] ys h = h
stay_back f (r ∷ xs) ys h = stay_back f xs ys h.1

mutual
  -- a node whose targets all stay is the same
  pub stays_same : (f : ℕ → Option ℕ) (node : Node) → Stay f (refs node) → retargeted f node ≡ node
  stays_same f (Num width little bits) h = refl
  stays_same f (Line bytes) h = refl
  stays_same f (Ref strong wanted target) h = ap (λ t. Ref strong wanted t) h.0
  stays_same f (Text index) h = refl
  stays_same f (Bytes bytes) h = refl
  stays_same f (Group members) h = ap (λ m. Group m) (stay_same f members h)
  stays_same f (Row items) h = ap (λ m. Row m) (stay_same f items h)

  stay_same : (f : ℕ → Option ℕ) (members : Members) → Stay f (refs_in members) → retargeted_in f members ≡ members
  stay_same f End h = refl
  stay_same f (Here node rest) h =
      ap₂ (λ n m. Here n m) (stays_same f node (stay_front f (refs node) (refs_in rest) h)) (stay_same f rest (stay_back f (refs node) (refs_in rest) h))
  stay_same f (Absent rest) h = ap (λ m. Absent m) (stay_same f rest h)
