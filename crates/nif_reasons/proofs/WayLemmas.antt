-- Ways from a root down.
use Rattle.std.proofs.Common.{◌≡◌, ℕ, zero, suc, ◌-◌, ◌<◌, Bool, true, false, ◌||◌, ◌⊎◌, inl, inr, Contains, List, [], ◌∷◌, ◌++◌, length, Option, Some, None, option_and_then, slice_get, refl, sym, ap, subst, ◌∙◌, arith}
use Rattle.std.specs.Option.{option_map_or}
use Rattle.std.proofs.lemmas.Grind.{flat_map-append}
use Rattle.std.proofs.lemmas.List.{append-nil, append_assoc}
use Rattle.nif_schema.specs.Declaration.{Field}
use Rattle.nif_schema.specs.Schema.{Schema, parent, ancestor, fields_of, line_within, line}
use Rattle.nif_schema.specs.Reasons.{line_above, lacks_parent, ancestor_lacks}
use Rattle.nif_reasons.proofs.ParentLemmas.{ancestor-up, lacks-found}
use Rattle.nif_reasons.proofs.VisitLemmas.{contains-here, contains-there, contains-none, contains-cases}
use Rattle.nif_reasons.specs.Visits.{IsNext}
use Rattle.nif_reasons.specs.Ways.{IsWayFrom, last_or, fields_on}

module _ (S : Schema) where
  pub way-push : (above : Option ℕ) (way : List ℕ) (n : ℕ) → IsWayFrom S above way → n < length S → parent S n ≡ last_or above way → IsWayFrom S above (way ++ n ∷ [])
  way-push above [] n is within e = (e, within, tt)
  way-push above (m ∷ ms) n is within e = (is.0, is.1, way-push (Some m) ms n is.2 within e)

  pub way-pop : (above : Option ℕ) (way : List ℕ) (n : ℕ) → IsWayFrom S above (way ++ n ∷ []) → IsWayFrom S above way × (n < length S)
  way-pop above [] n is = (tt, is.1)
  way-pop above (m ∷ ms) n is = let r = way-pop (Some m) ms n is.2 in ((is.0, is.1, r.0), r.1)

  pub fields-push : (way : List ℕ) (n : ℕ) → fields_on S (way ++ n ∷ []) ≡ fields_on S way ++ fields_of S n
  fields-push way n = flat_map-append (fields_of S) way (n ∷ []) ∙ ap (λ l. fields_on S way ++ l) (append-nil (fields_of S n))

  -- the line that a way ends in
  Reaches : Option ℕ → List Field → Type 0
  Reaches None l = l ≡ []
  Reaches (Some n) l = (most : ℕ) → ancestor S most n ≡ None → line_within most S n ≡ l

  reach-next : (above : Option ℕ) (n : ℕ) (l : List Field) → Reaches above l → parent S n ≡ above → Reaches (Some n) (l ++ fields_of S n)
  unfolding Reaches
  reach-next above n l is e zero none = absurd (cc)
  reach-next None n l is e (suc most) none = ap (λ o. option_map_or (line_within most S) o [] ++ fields_of S n) e ∙ ap (λ x. x ++ fields_of S n) (sym is)
  reach-next (Some p) n l is e (suc most) none =
      let up : ancestor S most p ≡ None = sym (ancestor-up S most n ∙ ap (option_and_then (ancestor S most)) e) ∙ none in
      ap (λ o. option_map_or (line_within most S) o [] ++ fields_of S n) e ∙ ap (λ x. x ++ fields_of S n) (is most up)

  reach-way : (above : Option ℕ) (way : List ℕ) (l : List Field) → Reaches above l → IsWayFrom S above way → Reaches (last_or above way) (l ++ fields_on S way)
  reach-way above [] l is w = subst (Reaches above) (sym (append-nil l)) is
  reach-way above (n ∷ ns) l is w =
      subst (Reaches (last_or (Some n) ns)) (append_assoc l (fields_of S n) (fields_on S ns))
      (reach-way (Some n) ns (l ++ fields_of S n) (reach-next above n l is w.0) w.2)

  -- where the way ends in the parent of a type, its fields are those above the type
  pub way-line : (way : List ℕ) (n : ℕ) → IsWayFrom S None way → parent S n ≡ last_or None way → ancestor S (length S) n ≡ None → fields_on S way ≡ line_above S n
  unfolding Reaches
  way-line way n w e none = by (last_or None way) refl (reach-way None way [] refl w)
    where
      by : (o : Option ℕ) → last_or None way ≡ o → Reaches (last_or None way) ([] ++ fields_on S way) → fields_on S way ≡ line_above S n
      by None lo r = subst (λ o. Reaches o (fields_on S way)) lo r ∙ sym (ap (λ o. option_map_or (line S) o []) (e ∙ lo))
      by (Some p) lo r =
          let above : parent S n ≡ Some p = e ∙ lo in
          let most = length S in
          let up : ancestor S most p ≡ None =
          ap (option_and_then (ancestor S most)) (sym above) ∙ sym (ancestor-up S most n) ∙ ap (option_and_then (parent S)) none in
          let back = subst (λ o. Reaches o (fields_on S way)) lo r in
          sym (ap (λ o. option_map_or (line S) o []) above ∙ back most up)

module _ (S : Schema) where
  -- the parent of a type on a way is on the way, too, or above it
  way-closed : (above : Option ℕ) (way : List ℕ) (n p : ℕ) → IsWayFrom S above way → Contains way n → parent S n ≡ Some p → Contains way p ⊎ (above ≡ Some p)
  way-closed above [] n p w h e = absurd (contains-none n h)
  way-closed above (m ∷ ms) n p w h e = elim (contains-cases m ms n h) [
    | inl same ↦ inr (sym w.0 ∙ ap (parent S) same ∙ e)
    | inr more ↦ elim (way-closed (Some m) ms n p w.2 more e) [
      | inl on ↦ inl (contains-there m ms p on)
      | inr top ↦ inl (let same : m ≡ p = cc in subst (Contains (m ∷ ms)) same (contains-here m ms))
    ]
  ]

  pub last-on : (above : Option ℕ) (way : List ℕ) (n : ℕ) → last_or above way ≡ Some n → Contains way n ⊎ (above ≡ Some n)
  last-on above [] n e = inr e
  last-on above (m ∷ ms) n e = elim (last-on (Some m) ms n e) [
    | inl on ↦ inl (contains-there m ms n on)
    | inr top ↦ inl (let same : m ≡ n = cc in subst (Contains (m ∷ ms)) same (contains-here m ms))
  ]

  -- so all ancestors of its last are on it
  on-way : (way : List ℕ) (n : ℕ) → IsWayFrom S None way → last_or None way ≡ Some n → (steps p : ℕ) → ancestor S steps n ≡ Some p → Contains way p
  on-way way n w last zero p e = let same : n ≡ p = cc in elim (last-on None way n last) [ inl on ↦ subst (Contains way) same on | inr none ↦ absurd (cc) ]
  on-way way n w last (suc steps) p e = by (ancestor S steps n) refl (on-way way n w last steps)
    where
      by : (o : Option ℕ) → ancestor S steps n ≡ o → ((q : ℕ) → ancestor S steps n ≡ Some q → Contains way q) → Contains way p
      by None is rest = let none : ancestor S (suc steps) n ≡ None = ap (option_and_then (parent S)) is in absurd (cc)
      by (Some q) is rest =
          let up : parent S q ≡ Some p = sym (ap (option_and_then (parent S)) is) ∙ e in
          elim (way-closed None way q p w (rest q is) up) [ inl on ↦ on | inr none ↦ absurd (cc) ]

  -- and the parent of a type that may come next
  pub parent-on : (way : List ℕ) (n : ℕ) → IsWayFrom S None way → IsNext S (last_or None way) n → (p : ℕ) → parent S n ≡ Some p → Contains way p
  parent-on way n w next p e = by (last_or None way) refl next
    where
      by : (o : Option ℕ) → last_or None way ≡ o → IsNext S o n → Contains way p
      by None is none = absurd (cc)
      by (Some m) is next = let far = next p e in on-way way m w is far.0 p far.1

  -- Of the types on a way only the first may lack its parent.
  Lacks : Option ℕ → Option ℕ → Type 0
  Lacks root None = Unit {0}
  Lacks root (Some n) = (most : ℕ) → ancestor S most n ≡ None → (lacks_parent S n || ancestor_lacks most S n) ≡ option_map_or (lacks_parent S) root false

  or-none : (b : Bool) → (b || false) ≡ b
  or-none true = refl
  or-none false = refl

  lacks-root : (n : ℕ) → parent S n ≡ None → Lacks (Some n) (Some n)
  unfolding Lacks
  lacks-root n none zero e = absurd (cc)
  lacks-root n none (suc most) e = ap (λ o. lacks_parent S n || option_map_or (λ above. lacks_parent S above || ancestor_lacks most S above) o false) none ∙ or-none (lacks_parent S n)

  lacks-next : (root : Option ℕ) (p n : ℕ) → Lacks root (Some p) → parent S n ≡ Some p → Lacks root (Some n)
  unfolding Lacks
  lacks-next root p n is e zero none = absurd (cc)
  lacks-next root p n is e (suc most) none =
      let up : ancestor S most p ≡ None = ap (option_and_then (ancestor S most)) (sym e) ∙ sym (ancestor-up S most n) ∙ none in
      ap (λ b. b || option_map_or (λ above. lacks_parent S above || ancestor_lacks most S above) (parent S n) false) (lacks-found S n p e)
      ∙ ap (λ o. option_map_or (λ above. lacks_parent S above || ancestor_lacks most S above) o false) e
      ∙ is most up

  lacks-way : (root : ℕ) (p : ℕ) (way : List ℕ) → Lacks (Some root) (Some p) → IsWayFrom S (Some p) way → Lacks (Some root) (last_or (Some p) way)
  lacks-way root p [] is w = is
  lacks-way root p (m ∷ ms) is w = lacks-way root m ms (lacks-next (Some root) p m is w.0) w.2

  -- a type without a parent, and one behind a way that isn't empty
  pub lacks-first : (n : ℕ) → parent S n ≡ None → ancestor_lacks (length S) S n ≡ false
  lacks-first n none = by (length S)
    where
      by : (most : ℕ) → ancestor_lacks most S n ≡ false
      by zero = refl
      by (suc most) = ap (λ o. option_map_or (λ above. lacks_parent S above || ancestor_lacks most S above) o false) none

  pub lacks-behind : (root : ℕ) (way : List ℕ) (n : ℕ) → IsWayFrom S None (root ∷ way) → parent S n ≡ last_or (Some root) way → ancestor S (length S) n ≡ None
      → ancestor_lacks (length S) S n ≡ lacks_parent S root
  unfolding Lacks
  lacks-behind root way n w e none = by (last_or (Some root) way) refl (lacks-way root root way (lacks-root root w.0) w.2)
    where
      some : (above : Option ℕ) (m : ℕ) (ms : List ℕ) → last_or (Some m) ms ≡ None → ⊥
      some above m [] e = cc
      some above m (k ∷ ks) e = some above k ks e

      by : (o : Option ℕ) → last_or (Some root) way ≡ o → Lacks (Some root) o → ancestor_lacks (length S) S n ≡ lacks_parent S root
      by None is lacks = absurd (some None root way is)
      by (Some p) is lacks =
          let up = e ∙ is in
          sym (ap (λ b. b || ancestor_lacks (length S) S n) (lacks-found S n p up)) ∙ lacks-next (Some root) p n lacks up (length S) none

pub last-push : (above : Option ℕ) (way : List ℕ) (n : ℕ) → last_or above (way ++ n ∷ []) ≡ Some n
last-push above [] n = refl
last-push above (m ∷ ms) n = last-push (Some m) ms n

-- a way that isn't to end here has a last type
pub last-there : (way : List ℕ) (parent : Option ℕ) → ((p : ℕ) → parent ≡ Some p → Contains way p) → (parent ≡ last_or None way → ⊥) → (n : ℕ) × (last_or None way ≡ Some n)
last-there [] None on other = absurd (other refl)
last-there [] (Some p) on other = absurd (contains-none p (on p refl))
last-there (m ∷ ms) parent on other = by m ms
  where
    by : (m : ℕ) (ms : List ℕ) → (n : ℕ) × (last_or (Some m) ms ≡ Some n)
    by m [] = (m, refl)
    by m (k ∷ ks) = by k ks

pub last-get : (above : Option ℕ) (way : List ℕ) (n : ℕ) → slice_get way (length way - 1) ≡ Some n → last_or above way ≡ Some n
last-get above [] n e = absurd (cc)
last-get above (x ∷ []) n e = let z : length (x ∷ []) - 1 ≡ 0 = omega arith in ap (slice_get (x ∷ [])) (sym z) ∙ e
last-get above (x ∷ y ∷ ys) n e =
    let z : length (x ∷ y ∷ ys) - 1 ≡ suc (length (y ∷ ys) - 1) = omega arith in
    last-get (Some x) (y ∷ ys) n (ap (slice_get (x ∷ y ∷ ys)) (sym z) ∙ e)
