-- What the names of a path mean, by the tables of types.
use Rattle.std.proofs.Common.{◌≡◌, ℕ, ◌<◌, ◌≤◌, ◌⊎◌, Bool, true, false, cond, not, ◌&&◌, ◌||◌, List, [], ◌∷◌, ◌++◌, length, map, flat_map, get_or, slice_get, drop, Contains, Option, Some, None, is_some, is_none, option_and_then, option_to_list, inl, inr, refl, sym, ap, subst, ◌∙◌, true≢false, arith}
use Rattle.std.specs.List.{list_any, list_all}
use Rattle.std.specs.Option.{option_map_or}
use Rattle.std.proofs.lemmas.List.{map-append}
use Rattle.std.proofs.lemmas.List.Folds.{list_any_at}
use Rattle.std.proofs.lemmas.List.Elements.{Contains-append_left, Contains-append_right, Contains-append_cases}
use Rattle.std.proofs.lemmas.Option.{slice_get_cases, slice_get_past}
use Rattle.nif_names.specs.Shapes.{inners}
use Rattle.nif_names.specs.Tables.{Table, held}
use Rattle.nif_schema.specs.Declaration.{Name, Field, Formula}
use Rattle.nif_schema.specs.Schema.{Schema}
use Rattle.nif_schema.specs.Uses.{named, what_at}
use Rattle.nif_schema.specs.Paths.{Meaning, OfField, OfBits, goes_on, has_names, inside, inside_type, is_empty, ends_path, rest_reason, path_reason, fields_named, is_header_path}
use Rattle.nif_schema.specs.declared.faults.Closed.TheVariants.{C5, C6}
use Rattle.nif_sets.specs.Insides as sets
use Rattle.nif_sets.specs.Insides.{held_at, is_lacking, shapes_in}
use Rattle.nif_paths.specs.Shaped.{shape, field_shape, inner_of, with_names, lead, AreInsides}
use Rattle.nif_paths.specs.Levels.{IsEnded}
use Rattle.nif_paths.specs.Marks.{types_stop}

pub both_ways : (a b : Bool) → (a ≡ true → b ≡ true) → (b ≡ true → a ≡ true) → a ≡ b
both_ways true true f g = refl
both_ways false false f g = refl
both_ways true false f g = sym (f refl)
both_ways false true f g = g refl

pub contains-head : {X : Type 0} (x : X) (xs : List X) → Contains (x ∷ xs) x
contains-head x xs = Contains-append_left (x ∷ []) xs x (0, omega arith, refl)

contains-tail : {X : Type 0} (x : X) (xs : List X) (k : X) → Contains xs k → Contains (x ∷ xs) k
contains-tail x xs k h = Contains-append_right (x ∷ []) xs k h

pub only_one : {X : Type 0} (x k : X) → Contains (x ∷ []) k → x ≡ k
only_one x k h = let z : h.0 ≡ 0 = omega (arith, h.1) in sym (ap (λ i. get_or (x ∷ []) i k) z) ∙ h.2

left : (a b : Bool) → (a && b) ≡ true → a ≡ true
left true b h = refl
left false b h = h

right : (a b : Bool) → (a && b) ≡ true → b ≡ true
right true b h = h
right false b h = absurd (true≢false (sym h))

pub list_any-at : (q : ℕ → Bool) (xs : List ℕ) (k : ℕ) → Contains xs k → q k ≡ true → list_any q xs ≡ true
list_any-at q xs k is yes_k = list_any_at q xs is.0 k is.1 (ap q is.2 ∙ yes_k)

-- a test of all members
module _ {X : Type 0} (q : X → Bool) where
  pub all-to : (xs : List X) (k : X) → list_all q xs ≡ true → Contains xs k → q k ≡ true
  all-to [] k all is = absurd (omega (arith, is.1))
  all-to (x ∷ xs) k all is =
      elim (Contains-append_cases (x ∷ []) xs k is) [
        | inl here ↦ sym (ap q (only_one x k here)) ∙ left (q x) (list_all q xs) all
        | inr later ↦ all-to xs k (right (q x) (list_all q xs) all) later
      ]

  pub all-from : (xs : List X) → ((k : X) → Contains xs k → q k ≡ true) → list_all q xs ≡ true
  all-from [] each = refl
  all-from (x ∷ xs) each = ap (λ b. b && list_all q xs) (each x (contains-head x xs)) ∙ all-from xs (λ k h. each k (contains-tail x xs k h))

pub any-not : {X : Type 0} (q : X → Bool) (xs : List X) → list_any q xs ≡ not (list_all (λ k. not (q k)) xs)
any-not q [] = refl
any-not q (x ∷ xs) = by (q x) (any-not q xs)
  where
    by : (b : Bool) → list_any q xs ≡ not (list_all (λ k. not (q k)) xs) → (b || list_any q xs) ≡ not (not b && list_all (λ k. not (q k)) xs)
    by true e = refl
    by false e = e

-- what the parts hold together
module _ {X Y : Type 0} (h : X → List Y) where
  pub flat-to : (xs : List X) (k : Y) → Contains (flat_map h xs) k → (x : X) × Contains xs x × Contains (h x) k
  flat-to [] k is = absurd (omega (arith, is.1))
  flat-to (x ∷ xs) k is =
      elim (Contains-append_cases (h x) (flat_map h xs) k is) [
        | inl here ↦ (x, contains-head x xs, here)
        | inr later ↦ let r = flat-to xs k later in (r.0, contains-tail x xs r.0 r.1, r.2)
      ]

  pub flat-from : (xs : List X) (x : X) (k : Y) → Contains xs x → Contains (h x) k → Contains (flat_map h xs) k
  flat-from [] x k is has = absurd (omega (arith, is.1))
  flat-from (y ∷ xs) x k is has =
      elim (Contains-append_cases (y ∷ []) xs x is) [
        | inl here ↦ Contains-append_left (h y) (flat_map h xs) k (subst (λ z. Contains (h z) k) (sym (only_one y x here)) has)
        | inr later ↦ Contains-append_right (h y) (flat_map h xs) k (flat-from xs x k later has)
      ]

module _ (S : Schema) (name : Name) where
  -- a meaning that goes on has an inner type, and what the name means in it
  inner-lead : (m : Meaning) → goes_on S m ≡ true → (n : ℕ) × ((shape S m).inner ≡ Some n) × (inside S name m ≡ lead S name n)
  unfolding field_shape inner_of with_names lead
  inner-lead OfBits e = absurd (true≢false (sym e))
  inner-lead (OfField f) e = by f.length refl (named S f.kind) refl e
    where
      by : (l : Option Formula) → f.length ≡ l → (o : Option ℕ) → named S f.kind ≡ o
          → (is_none l && option_map_or (λ number. option_map_or (has_names S number) (what_at S number) false) o false) ≡ true
          → (n : ℕ) × ((shape S (OfField f)).inner ≡ Some n) × (inside S name (OfField f) ≡ lead S name n)
      by (Some x) el o eo h = absurd (true≢false (sym h))
      by None el None eo h = absurd (true≢false (sym h))
      by None el (Some n) eo h = (
        n,
        ap (λ l. cond (is_none l) (option_and_then (with_names S) (named S f.kind)) None) el ∙ ap (option_and_then (with_names S)) eo ∙ ap (λ b. cond b (Some n) None) h,
        ap (λ o. option_map_or (λ number. option_map_or (inside_type S name number) (what_at S number) []) o []) eo,
      )

  -- where all go on, the next name is looked up in their inner types
  pub lead-all : (ms : List Meaning) → list_all (goes_on S) ms ≡ true → flat_map (inside S name) ms ≡ flat_map (lead S name) (inners (map (shape S) ms))
  lead-all [] all = refl
  lead-all (m ∷ ms) all =
      let r = inner-lead m (left (goes_on S m) (list_all (goes_on S) ms) all) in
      ap (λ l. l ++ flat_map (inside S name) ms) r.2
      ∙ ap (λ l. lead S name r.0 ++ l) (lead-all ms (right (goes_on S m) (list_all (goes_on S) ms) all))
      ∙ sym (ap (λ o. flat_map (lead S name) (option_to_list o ++ inners (map (shape S) ms))) r.1)

  pub lacks-all : (ms : List Meaning) → list_all (goes_on S) ms ≡ true
      → list_any (λ m. is_empty (inside S name m)) ms ≡ list_any (λ k. is_empty (lead S name k)) (inners (map (shape S) ms))
  lacks-all [] all = refl
  lacks-all (m ∷ ms) all =
      let r = inner-lead m (left (goes_on S m) (list_all (goes_on S) ms) all) in
      ap (λ l. is_empty l || list_any (λ x. is_empty (inside S name x)) ms) r.2
      ∙ ap (λ b. is_empty (lead S name r.0) || b) (lacks-all ms (right (goes_on S m) (list_all (goes_on S) ms) all))
      ∙ sym (ap (λ o. list_any (λ k. is_empty (lead S name k)) (option_to_list o ++ inners (map (shape S) ms))) r.1)

  module _ (tables : List Table) (insides : AreInsides S tables) where
    pub held-lead : (k : ℕ) → held_at tables name k ≡ map (shape S) (lead S name k)
    unfolding lead
    held-lead k = by (slice_get tables k) refl (slice_get_cases tables k).1
      where
        by : (o : Option Table) → slice_get tables k ≡ o
            → ((t : Table) × (k < length tables) × (slice_get tables k ≡ Some t) × (get_or tables k t ≡ t)) ⊎ ((length tables ≤ k) × (slice_get tables k ≡ None))
            → held_at tables name k ≡ map (shape S) (lead S name k)
        by o e (inl r) = ap (λ p. option_map_or (λ table. held table name) p []) r.2 ∙ insides.each k r.0 r.2 name
        by o e (inr r) =
            let past = r.0 in
            let lost : slice_get S k ≡ None = let c = insides.count in slice_get_past S k (omega (arith, past, c)) in
            ap (λ p. option_map_or (λ table. held table name) p []) r.1
            ∙ sym (ap (λ p. map (shape S) (option_map_or (inside_type S name k) (option_and_then (λ x. Some x.what) p) [])) lost)

    pub held-leads : (ks : List ℕ) → shapes_in tables name ks ≡ map (shape S) (flat_map (lead S name) ks)
    held-leads [] = refl
    held-leads (k ∷ ks) =
        ap (λ l. l ++ flat_map (held_at tables name) ks) (held-lead k) ∙ ap (λ l. map (shape S) (lead S name k) ++ l) (held-leads ks)
        ∙ sym (map-append (shape S) (lead S name k) (flat_map (lead S name) ks))

    pub held-lacks : (ks : List ℕ) → is_lacking tables name ks ≡ list_any (λ k. is_empty (lead S name k)) ks
    held-lacks [] = refl
    held-lacks (k ∷ ks) =
        ap (λ l. sets.is_empty l || is_lacking tables name ks) (held-lead k)
        ∙ ap (λ b. b || is_lacking tables name ks) (empty_map (lead S name k))
        ∙ ap (λ b. is_empty (lead S name k) || b) (held-lacks ks)
      where
        empty_map : (l : List Meaning) → sets.is_empty (map (shape S) l) ≡ is_empty l
        empty_map [] = refl
        empty_map (x ∷ xs) = refl

-- what the shapes of meanings say
module _ (S : Schema) where
  goes-on : (m : Meaning) → is_some (shape S m).inner ≡ goes_on S m
  unfolding field_shape inner_of with_names
  goes-on OfBits = refl
  goes-on (OfField f) = by f.length (named S f.kind)
    where
      one : (b : Bool) (n : ℕ) → is_some (cond b (Some n) None) ≡ b
      one true n = refl
      one false n = refl

      by : (l : Option Formula) (o : Option ℕ) → is_some (cond (is_none l) (option_and_then (with_names S) o) None)
          ≡ (is_none l && option_map_or (λ number. option_map_or (has_names S number) (what_at S number) false) o false)
      by (Some x) o = refl
      by None None = refl
      by None (Some n) = one (option_map_or (has_names S n) (what_at S n) false) n

  pub go-on : (ms : List Meaning) → list_all (λ s. is_some s.inner) (map (shape S) ms) ≡ list_all (goes_on S) ms
  go-on [] = refl
  go-on (m ∷ ms) = ap (λ b. b && list_all (λ s. is_some s.inner) (map (shape S) ms)) (goes-on m) ∙ ap (λ b. goes_on S m && b) (go-on ms)

  ends : (m : Meaning) → (shape S m).number ≡ ends_path S m
  unfolding field_shape
  ends OfBits = refl
  ends (OfField f) = refl

  pub all-end : (ms : List Meaning) → list_all (λ s. s.number) (map (shape S) ms) ≡ list_all (ends_path S) ms
  all-end [] = refl
  all-end (m ∷ ms) = ap (λ b. b && list_all (λ s. s.number) (map (shape S) ms)) (ends m) ∙ ap (λ b. ends_path S m && b) (all-end ms)

  -- the last name of a path
  module _ (name : Name) (tables : List Table) (insides : AreInsides S tables) (ks : List ℕ) where
    pub last-ends : (stop : ℕ) → IsEnded tables name ks stop → stop ≡ types_stop S ks (name ∷ [])
    last-ends stop is =
        is.numbers
        ∙ ap (λ b. cond b 0 1) (ap (list_all (λ s. s.number)) (held-leads S name tables insides ks) ∙ all-end (flat_map (lead S name) ks))
        ∙ sym (ap (λ b. cond b 2 (cond (list_all (ends_path S) (flat_map (lead S name) ks)) 0 1)) (sym (held-lacks S name tables insides ks) ∙ is.found))

    pub last-lacks : is_lacking tables name ks ≡ true → 2 ≡ types_stop S ks (name ∷ [])
    last-lacks some = sym (ap (λ b. cond b 2 (cond (list_all (ends_path S) (flat_map (lead S name) ks)) 0 1)) (sym (held-lacks S name tables insides ks) ∙ some))

  -- one name of a path
  module _ (ms : List Meaning) where
    pub reason-end : rest_reason S ms [] ≡ cond (list_all (λ s. s.number) (map (shape S) ms)) None (Some C6)
    reason-end = sym (ap (λ b. cond b None (Some C6)) (all-end ms))

    pub reason-stop : (name : Name) (names : List Name) → list_all (λ s. is_some s.inner) (map (shape S) ms) ≡ false → rest_reason S ms (name ∷ names) ≡ Some C6
    reason-stop name names e =
        ap (λ b. cond b (cond (list_any (λ m. is_empty (inside S name m)) ms) (Some C5) (rest_reason S (flat_map (inside S name) ms) names)) (Some C6)) (sym (go-on ms) ∙ e)

  -- the first name
  pub path-none : (fields : List Field) (first : Name) (names : List Name) → map (shape S) (fields_named first fields) ≡ []
      → path_reason S fields (first ∷ names) ≡ cond (is_header_path (first ∷ names)) None (Some C5)
  path-none fields first names none = by (fields_named first fields) none
    where
      by : (ms : List Meaning) → map (shape S) ms ≡ [] → (elim ms [ [] ↦ cond (is_header_path (first ∷ names)) None (Some C5) | m ∷ rest ↦ rest_reason S (m ∷ rest) names ])
          ≡ cond (is_header_path (first ∷ names)) None (Some C5)
      by [] e = refl
      by (m ∷ ms) e = absurd (cc)

  pub path-some : (fields : List Field) (first : Name) (names : List Name) → (map (shape S) (fields_named first fields) ≡ [] → ⊥)
      → path_reason S fields (first ∷ names) ≡ rest_reason S (fields_named first fields) names
  path-some fields first names some = by (fields_named first fields) some
    where
      by : (ms : List Meaning) → (map (shape S) ms ≡ [] → ⊥) → (elim ms [ [] ↦ cond (is_header_path (first ∷ names)) None (Some C5) | m ∷ rest ↦ rest_reason S (m ∷ rest) names ])
          ≡ rest_reason S ms names
      by [] f = absurd (f refl)
      by (m ∷ ms) f = refl

  pub first-none : (fields : List Field) (p : List Name) → 0 < length p → map (shape S) (fields_named (get_or p 0 []) fields) ≡ []
      → path_reason S fields p ≡ cond (is_header_path p) None (Some C5)
  first-none fields [] lt none = absurd (omega arith)
  first-none fields (first ∷ names) lt none = path-none fields first names none

  pub first-some : (fields : List Field) (p : List Name) → 0 < length p → (map (shape S) (fields_named (get_or p 0 []) fields) ≡ [] → ⊥)
      → path_reason S fields p ≡ rest_reason S (fields_named (get_or p 0 []) fields) (drop 1 p)
  first-some fields [] lt some = absurd (omega arith)
  first-some fields (first ∷ names) lt some = path-some fields first names some
