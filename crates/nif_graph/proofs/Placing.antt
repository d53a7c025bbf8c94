-- Blocks that are taken out, put elsewhere or put in: their names, the table of places, and the keys of their trees.
use Rattle.std.proofs.Common.{◌≡◌, ◌≢◌, ◌⊎◌, inl, inr, ℕ, zero, suc, ◌+◌, ◌-◌, ◌^◌, ◌<◌, ◌≤◌, Bool, true, false, Option, Some, None, List, [], ◌∷◌, ◌++◌, map, length, take, refl, sym, ◌∙◌, ap, IfSome, subst, arith, length-set, length-append}
use Rattle.std.proofs.lemmas.Bool.{eqb-true, eqb-false, eq-eqb}
use Rattle.std.proofs.lemmas.Option.{slice_get_within}
use Rattle.std.specs.Prelude.{◌==◌, if◌then◌else◌, slice_get, slice_set, insert}
use Rattle.std.specs.List.{remove}
use Rattle.std.specs.Option.{option_map, option_map_or}
use Rattle.nif_graph.specs.declared.slots.Slot.{Slot}
use Rattle.nif_graph.specs.Slots.{place_in, DifferentSlots, IsTable, tabled}
use Rattle.nif_graph.specs.State.{Differ}
use Rattle.std.proofs.lemmas.List.Edits.{length-remove}
use Rattle.nif_graph.proofs.Marking.{test, differ, get_front}
use Rattle.nif_graph.proofs.Tables.{none_past}

none_suc : (o : Option ℕ) → option_map suc o ≡ None → o ≡ None
none_suc None h = refl
none_suc (Some k) h = absurd cc

-- ---- elements of changed lists

module _ {A : Type 0} where
  pub remove_from : (xs : List A) (at i : ℕ) (x : A) → slice_get (remove xs at) i ≡ Some x → (j : ℕ) × (slice_get xs j ≡ Some x)
  remove_from [] at i x h = absurd (by at h)
    where
      by : (at : ℕ) → slice_get (remove {X = A} [] at) i ≡ Some x → ⊥
      by zero h = cc
      by (suc at) h = cc
  remove_from (c ∷ xs) zero i x h = (suc i, h)
  remove_from (c ∷ xs) (suc at) zero x h = (0, h)
  remove_from (c ∷ xs) (suc at) (suc i) x h = let r = remove_from xs at i x h in (suc r.0, r.1)

  pub insert_from : (xs : List A) (at i : ℕ) (y x : A) → slice_get (insert xs at y) i ≡ Some x → (y ≡ x) ⊎ ((j : ℕ) × (slice_get xs j ≡ Some x))
  insert_from xs zero zero y x h = inl (some_is h)
    where
      some_is : {a b : A} → Some a ≡ Some b → a ≡ b
      some_is {a} {b} e = ap (λ o. option_map_or (λ x. x) o a) e
  insert_from xs zero (suc i) y x h = inr (i, h)
  insert_from [] (suc at) zero y x h = inl (some_is h)
    where
      some_is : {a b : A} → Some a ≡ Some b → a ≡ b
      some_is {a} {b} e = ap (λ o. option_map_or (λ x. x) o a) e
  insert_from [] (suc at) (suc i) y x h = absurd cc
  insert_from (c ∷ xs) (suc at) zero y x h = inr (0, h)
  insert_from (c ∷ xs) (suc at) (suc i) y x h = elim (insert_from xs at i y x h) [ inl e ↦ inl e | inr r ↦ inr (suc r.0, r.1) ]

module _ {A B : Type 0} (f : A → B) where
  pub map_remove : (xs : List A) (at : ℕ) → map f (remove xs at) ≡ remove (map f xs) at
  map_remove [] zero = refl
  map_remove [] (suc at) = refl
  map_remove (c ∷ xs) zero = refl
  map_remove (c ∷ xs) (suc at) = ap (λ l. f c ∷ l) (map_remove xs at)

  pub map_insert : (xs : List A) (at : ℕ) (x : A) → map f (insert xs at x) ≡ insert (map f xs) at (f x)
  map_insert xs zero x = refl
  map_insert [] (suc at) x = refl
  map_insert (c ∷ xs) (suc at) x = ap (λ l. f c ∷ l) (map_insert xs at x)

pub length-insert : {A : Type 0} (xs : List A) (at : ℕ) (x : A) → length (insert xs at x) ≡ suc (length xs)
length-insert xs zero x = refl
length-insert [] (suc at) x = refl
length-insert (c ∷ xs) (suc at) x = ap suc (length-insert xs at x)

-- ---- keys differ

pub differ_remove : (keys : List ℕ) (at : ℕ) → Differ keys → Differ (remove keys at)
differ_remove [] zero d = tt
differ_remove [] (suc at) d = tt
differ_remove (c ∷ keys) zero d = d.1
differ_remove (c ∷ keys) (suc at) d = (λ k e. let r = remove_from keys at k c e in d.0 r.0 r.1, differ_remove keys at d.1)

-- a key that is taken out is there no more
pub gone_key : (keys : List ℕ) (at : ℕ) (key : ℕ) → Differ keys → slice_get keys at ≡ Some key → (k : ℕ)
    → slice_get (remove keys at) k ≡ Some key → ⊥
gone_key [] at key d there k e = absurd cc
gone_key (c ∷ keys) zero key d there k e =
    let is : c ≡ key = cc in
    d.0 k (e ∙ ap (λ x. Some x) (sym is))
gone_key (c ∷ keys) (suc at) key d there zero e =
    let is : c ≡ key = cc in
    d.0 at (there ∙ ap (λ x. Some x) (sym is))
gone_key (c ∷ keys) (suc at) key d there (suc k) e = gone_key keys at key d.1 there k e

pub differ_insert : (keys : List ℕ) (at key : ℕ) → ((k : ℕ) → slice_get keys k ≡ Some key → ⊥) → Differ keys → Differ (insert keys at key)
differ_insert keys zero key new d = (new, d)
differ_insert [] (suc at) key new d = (λ k e. absurd cc, tt)
differ_insert (c ∷ keys) (suc at) key new d = (
  λ k e. elim (insert_from keys at k key c e) [
    | inl same ↦ new 0 (ap (λ x. Some x) (sym same))
    | inr r ↦ d.0 r.0 r.1
  ],
  differ_insert keys at key (λ k. new (suc k)) d.1,
)

-- ---- names

pub out_of_remove : (n at : ℕ) (slots : List Slot) → place_in n slots ≡ None → place_in n (remove slots at) ≡ None
out_of_remove n zero [] h = refl
out_of_remove n (suc at) [] h = refl
out_of_remove n zero (c ∷ slots) h = elim (test (n == c.name)) [
  | inl q ↦ absurd (let z : ◌≡◌ {A = Option ℕ} (Some 0) None = rw q at h in cc)
  | inr q ↦ none_suc (place_in n slots) (rw q at h)
]
out_of_remove n (suc at) (c ∷ slots) h = elim (test (n == c.name)) [
  | inl q ↦ absurd (let z : ◌≡◌ {A = Option ℕ} (Some 0) None = rw q at h in cc)
  | inr q ↦ rw q (ap (λ o. option_map suc o) (out_of_remove n at slots (none_suc (place_in n slots) (rw q at h))))
]

pub different_remove : (at : ℕ) (slots : List Slot) → DifferentSlots slots → DifferentSlots (remove slots at)
different_remove zero [] d = tt
different_remove (suc at) [] d = tt
different_remove zero (c ∷ slots) d = d.1
different_remove (suc at) (c ∷ slots) d = (out_of_remove c.name at slots d.0, different_remove at slots d.1)

-- a name beside that of the block that is taken out
pub out_before : (n at : ℕ) (slots : List Slot) (s : Slot) → slice_get slots at ≡ Some s → n ≢ s.name
    → place_in n (remove slots at) ≡ None → place_in n slots ≡ None
out_before n at [] s there ne h = refl
out_before n zero (c ∷ slots) s there ne h =
    let is : c ≡ s = cc in
    rw (differ n c.name (λ e. ne (e ∙ ap (λ (x : Slot). x.name) is))) (ap (λ o. option_map suc o) h)
out_before n (suc at) (c ∷ slots) s there ne h = elim (test (n == c.name)) [
  | inl q ↦ absurd (let z : ◌≡◌ {A = Option ℕ} (Some 0) None = rw q at h in cc)
  | inr q ↦ rw q (ap (λ o. option_map suc o) (out_before n at slots s there ne (none_suc (place_in n (remove slots at)) (rw q at h))))
]

not_there : (n i : ℕ) (slots : List Slot) (s : Slot) → place_in n slots ≡ None → slice_get slots i ≡ Some s → n ≢ s.name
not_there n i [] s h there = absurd cc
not_there n zero (c ∷ slots) s h there = λ e.
    let is : c ≡ s = cc in
    let e' : n ≡ c.name = e ∙ sym (ap (λ (x : Slot). x.name) is) in
    let z : ◌≡◌ {A = Option ℕ} (Some 0) None = rw (eq-eqb n c.name e') at h in absurd cc
not_there n (suc i) (c ∷ slots) s h there = elim (test (n == c.name)) [
  | inl q ↦ absurd (let z : ◌≡◌ {A = Option ℕ} (Some 0) None = rw q at h in cc)
  | inr q ↦ not_there n i slots s (none_suc (place_in n slots) (rw q at h)) there
]

-- the name of the block that is taken out
pub name_out : (at : ℕ) (slots : List Slot) (s : Slot) → DifferentSlots slots → slice_get slots at ≡ Some s
    → place_in s.name (remove slots at) ≡ None
name_out at [] s d there = absurd cc
name_out zero (c ∷ slots) s d there =
    let is : c ≡ s = cc in ap (λ (x : Slot). place_in x.name slots) (sym is) ∙ d.0
name_out (suc at) (c ∷ slots) s d there =
    rw (differ s.name c.name (λ e. not_there c.name at slots s d.0 there (sym e)))
    (ap (λ o. option_map suc o) (name_out at slots s d.1 there))

pub out_of_insert : (n at : ℕ) (slots : List Slot) (s : Slot) → n ≢ s.name → place_in n slots ≡ None → place_in n (insert slots at s) ≡ None
out_of_insert n zero slots s ne h = rw (differ n s.name ne) (ap (λ o. option_map suc o) h)
out_of_insert n (suc at) [] s ne h = rw (differ n s.name ne) refl
out_of_insert n (suc at) (c ∷ slots) s ne h = elim (test (n == c.name)) [
  | inl q ↦ absurd (let z : ◌≡◌ {A = Option ℕ} (Some 0) None = rw q at h in cc)
  | inr q ↦ rw q (ap (λ o. option_map suc o) (out_of_insert n at slots s ne (none_suc (place_in n slots) (rw q at h))))
]

pub different_insert : (at : ℕ) (slots : List Slot) (s : Slot) → DifferentSlots slots → place_in s.name slots ≡ None
    → DifferentSlots (insert slots at s)
different_insert zero slots s d new = (new, d)
different_insert (suc at) [] s d new = (refl, tt)
different_insert (suc at) (c ∷ slots) s d new =
    let ne : c.name ≢ s.name = (λ e. let z : ◌≡◌ {A = Option ℕ} (Some 0) None = rw (eq-eqb s.name c.name (sym e)) at new in absurd cc) in
    let later : place_in s.name slots ≡ None = none_suc (place_in s.name slots) (rw (differ s.name c.name (λ e. ne (sym e))) at new) in
    (out_of_insert c.name at slots s ne d.0, different_insert at slots s d.1 later)

-- a name that isn't there once a block is put in
pub out_of_both : (n at : ℕ) (slots : List Slot) (s : Slot) → place_in n (insert slots at s) ≡ None → (n ≢ s.name) × (place_in n slots ≡ None)
out_of_both n zero slots s h = elim (test (n == s.name)) [
  | inl q ↦ absurd (let z : ◌≡◌ {A = Option ℕ} (Some 0) None = rw q at h in cc)
  | inr q ↦ (eqb-false n s.name q, none_suc (place_in n slots) (rw q at h))
]
out_of_both n (suc at) [] s h = elim (test (n == s.name)) [
  | inl q ↦ absurd (let z : ◌≡◌ {A = Option ℕ} (Some 0) None = rw q at h in cc)
  | inr q ↦ (eqb-false n s.name q, refl)
]
out_of_both n (suc at) (c ∷ slots) s h = elim (test (n == c.name)) [
  | inl q ↦ absurd (let z : ◌≡◌ {A = Option ℕ} (Some 0) None = rw q at h in cc)
  | inr q ↦ let r = out_of_both n at slots s (none_suc (place_in n (insert slots at s)) (rw q at h)) in
      (r.0, rw q (ap (λ o. option_map suc o) r.1))
]

-- ---- the table

-- Entering the blocks one after another.
pub record IsEntering (slots : List Slot) (start now : List (Option ℕ)) (i : ℕ) : Type 0 where
  pub len : length now ≡ length start
  pub table : (n : ℕ) → n < length start → slice_get now n ≡ tabled n (take i slots) start

place_in-more : (n : ℕ) (slots : List Slot) (s : Slot) → place_in n (slots ++ s ∷ []) ≡ option_map_or (λ (k : ℕ). Some k) (place_in n slots) (if n == s.name then Some (length slots) else None)
place_in-more n [] s = elim (test (n == s.name)) [ inl q ↦ rw q refl | inr q ↦ rw q refl ]
place_in-more n (c ∷ slots) s = elim (test (n == c.name)) [
  | inl q ↦ rw q refl
  | inr q ↦ rw q (ap (λ o. option_map suc o) (place_in-more n slots s) ∙ by (place_in n slots) (n == s.name))
]
  where
    by : (o : Option ℕ) (b : Bool) → option_map suc (option_map_or (λ (k : ℕ). Some k) o (if b then Some (length slots) else None))
        ≡ option_map_or (λ (k : ℕ). Some k) (option_map suc o) (if b then Some (suc (length slots)) else None)
    by None true = refl
    by None false = refl
    by (Some k) b = refl

not_before : (i : ℕ) (slots : List Slot) (s : Slot) → DifferentSlots slots → slice_get slots i ≡ Some s → place_in s.name (take i slots) ≡ None
not_before zero slots s d there = refl
not_before (suc i) [] s d there = refl
not_before (suc i) (c ∷ slots) s d there =
    rw (differ s.name c.name (λ e. not_there c.name i slots s d.0 there (sym e))) (ap (λ o. option_map suc o) (not_before i slots s d.1 there))

pub get-set : (places : List (Option ℕ)) (n m : ℕ) (x : Option ℕ) → m < length places → slice_get (slice_set places m x) n ≡ (if n == m then Some x else slice_get places n)
get-set [] n m x l = absurd (omega arith)
get-set (y ∷ places) zero zero x l = refl
get-set (y ∷ places) (suc n) zero x l = rw (differ (suc n) 0 (λ e. omega arith)) refl
get-set (y ∷ places) zero (suc m) x l = rw (differ 0 (suc m) (λ e. omega arith)) refl
get-set (y ∷ places) (suc n) (suc m) x l = get-set places n m x (omega arith) ∙ (elim (test (n == m)) [
  | inl q ↦ rw (q, eq-eqb (suc n) (suc m) (ap suc (eqb-true n m q))) refl
  | inr q ↦ rw (q, differ (suc n) (suc m) (λ e. eqb-false n m q (omega arith))) refl
])

take-more : (slots : List Slot) (i : ℕ) (s : Slot) → slice_get slots i ≡ Some s → take (suc i) slots ≡ take i slots ++ s ∷ []
take-more [] i s h = absurd cc
take-more (c ∷ slots) zero s h = let e : c ≡ s = cc in ap (λ x. x ∷ []) e
take-more (c ∷ slots) (suc i) s h = ap (λ l. c ∷ l) (take-more slots i s h)

take-length : (slots : List Slot) (i : ℕ) (s : Slot) → slice_get slots i ≡ Some s → length (take i slots) ≡ i
take-length [] i s h = absurd cc
take-length (c ∷ slots) zero s h = refl
take-length (c ∷ slots) (suc i) s h = ap suc (take-length slots i s h)

pub enters : (slots : List Slot) (start now next : List (Option ℕ)) (i : ℕ) (s : Slot) → DifferentSlots slots → IsEntering slots start now i
    → slice_get slots i ≡ Some s → s.name < length start → next ≡ slice_set now s.name (Some i) → IsEntering slots start next (i + 1)
enters slots start now next i s d h there l is = record {
  len = ap (λ l. length l) is ∙ length-set now s.name (Some i) ∙ h.len;
  table = λ n w. ap (λ l. slice_get l n) is ∙ get-set now n s.name (Some i) (let e : length now ≡ length start = h.len in omega arith) ∙ by n w (test (n == s.name));
}
  where
    more : (n : ℕ) → place_in n (take (i + 1) slots) ≡ option_map_or (λ (k : ℕ). Some k) (place_in n (take i slots)) (if n == s.name then Some i else None)
    more n = ap (λ k. place_in n (take k slots)) (let e : i + 1 ≡ suc i = omega arith in e) ∙ ap (λ l. place_in n l) (take-more slots i s there) ∙ place_in-more n (take i slots) s
        ∙ ap (λ k. option_map_or (λ (k : ℕ). Some k) (place_in n (take i slots)) (if n == s.name then Some k else None)) (take-length slots i s there)

    whole : (o : Option ℕ) (x : Option (Option ℕ)) → option_map_or (λ (k : ℕ). Some (Some k)) (option_map_or (λ (k : ℕ). Some k) o None) x ≡ option_map_or (λ (k : ℕ). Some (Some k)) o x
    whole None x = refl
    whole (Some k) x = refl

    by : (n : ℕ) → n < length start → ((n == s.name) ≡ true) ⊎ ((n == s.name) ≡ false)
        → (if n == s.name then Some (Some i) else slice_get now n) ≡ tabled n (take (i + 1) slots) start
    by n w (inl q) =
        let e : n ≡ s.name = eqb-true n s.name q in
        let none : place_in n (take i slots) ≡ None = ap (λ m. place_in m (take i slots)) e ∙ not_before i slots s d there in
        let new : option_map_or (λ (k : ℕ). Some k) (place_in n (take i slots)) (if n == s.name then Some i else None) ≡ Some i = rw (none, q) refl in
        rw q (sym (ap (λ o. option_map_or (λ (k : ℕ). Some (Some k)) o (slice_get start n)) (more n ∙ new)))
    by n w (inr q) =
        let new : option_map_or (λ (k : ℕ). Some k) (place_in n (take i slots)) (if n == s.name then Some i else None) ≡ option_map_or (λ (k : ℕ). Some k) (place_in n (take i slots)) None =
        rw q refl in
        rw q (h.table n w ∙ sym (ap (λ o. option_map_or (λ (k : ℕ). Some (Some k)) o (slice_get start n)) (more n ∙ new) ∙ whole (place_in n (take i slots)) (slice_get start n)))

take-all : (slots : List Slot) (i : ℕ) → length slots ≤ i → take i slots ≡ slots
take-all [] zero h = refl
take-all [] (suc i) h = refl
take-all (c ∷ slots) zero h = absurd (omega arith)
take-all (c ∷ slots) (suc i) h = ap (λ l. c ∷ l) (take-all slots i (omega arith))

pub entered : (slots : List Slot) (start now : List (Option ℕ)) (i : ℕ) → IsEntering slots start now i → length slots ≤ i
    → (n : ℕ) → n < length start → slice_get now n ≡ tabled n slots start
entered slots start now i h l n w = h.table n w ∙ ap (λ ps. tabled n ps start) (take-all slots i l)

-- what an entered table says of a name that has no block is what it said
pub entered_table : (o : Option ℕ) (x : Option (Option ℕ)) → (o ≡ None → x ≡ Some None) → option_map_or (λ (k : ℕ). Some (Some k)) o x ≡ Some o
entered_table None x h = h refl
entered_table (Some k) x h = refl

-- the table of other blocks, where before they were entered it said nothing of names that have none
pub table_of : (slots : List Slot) (start now : List (Option ℕ)) → DifferentSlots slots
    → ((k : ℕ) (s : Slot) → slice_get slots k ≡ Some s → s.name < length start)
    → ((n : ℕ) → n < length start → place_in n slots ≡ None → slice_get start n ≡ Some None)
    → length slots ≤ length start → length start < 2 ^ 32 → length now ≡ length start
    → ((n : ℕ) → n < length start → slice_get now n ≡ tabled n slots start)
    → IsTable now slots
table_of slots start now different below none fewer few len entered = record {
  table = λ n l. let w : n < length start = omega (arith, len) in
      entered n w ∙ entered_table (place_in n slots) (slice_get start n) (none n w);
  below = λ k s e. subst (λ m. s.name < m) (sym len) (below k s e);
  different = different;
  fewer = (omega (arith, len));
  few = (omega (arith, len));
}

-- ---- the blocks after a change

module _ (places : List (Option ℕ)) (slots : List Slot) (h : IsTable places slots) where
  at_name : (n : ℕ) → n < length places → place_in n slots ≡ None → slice_get places n ≡ Some None
  at_name n l none = h.table n l ∙ ap (λ o. Some o) none

  module _ (at : ℕ) (s : Slot) (there : slice_get slots at ≡ Some s) where
    in_table : s.name < length places
    in_table = h.below at s there

    taken_below : (k : ℕ) (c : Slot) → slice_get (remove slots at) k ≡ Some c → c.name < length places
    taken_below k c e = let r = remove_from slots at k c e in h.below r.0 c r.1

    shorter : length (remove slots at) + 1 ≡ length slots
    shorter = length-remove slots at (slice_get_within slots at s there)

    pub taken_table : (now : List (Option ℕ)) → length now ≡ length (slice_set places s.name None)
        → ((n : ℕ) → n < length (slice_set places s.name None) → slice_get now n ≡ tabled n (remove slots at) (slice_set places s.name None))
        → IsTable now (remove slots at)
    taken_table now len entered =
        table_of (remove slots at) (slice_set places s.name None) now (different_remove at slots h.different)
        (λ k c e. subst (λ m. c.name < m) (sym as_long) (taken_below k c e))
        (λ n l none. get-set places n s.name None in_table ∙ (elim (test (n == s.name)) [
          | inl q ↦ rw q refl
          | inr q ↦ rw q (at_name n (subst (λ m. n < m) as_long l) (out_before n at slots s there (eqb-false n s.name q) none))
        ]))
        (let f : length slots ≤ length places = h.fewer in omega (arith, as_long, shorter))
        (subst (λ m. m < 2 ^ 32) (sym as_long) h.few) len entered
      where
        as_long : length (slice_set places s.name None) ≡ length places
        as_long = length-set places s.name None

    pub moved_below : (to k : ℕ) (c : Slot) → slice_get (insert (remove slots at) to s) k ≡ Some c → c.name < length places
    moved_below to k c e = elim (insert_from (remove slots at) to k s c e) [
      | inl is ↦ subst (λ (x : Slot). x.name < length places) is in_table
      | inr r ↦ taken_below r.0 c r.1
    ]

    pub moved_different : (to : ℕ) → DifferentSlots (insert (remove slots at) to s)
    moved_different to = different_insert to (remove slots at) s (different_remove at slots h.different) (name_out at slots s h.different there)

    pub as_many : (to : ℕ) → length (insert (remove slots at) to s) ≡ length slots
    as_many to = length-insert (remove slots at) to s ∙ (let e : length (remove slots at) + 1 ≡ length slots = shorter in omega arith)

    pub moved_table : (to : ℕ) (now : List (Option ℕ)) → length now ≡ length places
        → ((n : ℕ) → n < length places → slice_get now n ≡ tabled n (insert (remove slots at) to s) places)
        → IsTable now (insert (remove slots at) to s)
    moved_table to now len entered =
        table_of (insert (remove slots at) to s) places now (moved_different to) (moved_below to)
        (λ n l none. let r = out_of_both n to (remove slots at) s none in at_name n l (out_before n at slots s there r.0 r.1))
        (let f : length slots ≤ length places = h.fewer in omega (arith, as_many to))
        h.few len entered

  -- a block under the next name
  module _ (at : ℕ) (s : Slot) (is : s.name ≡ length places) (small : length places < 2 ^ 32 - 1) where
    new_name : place_in s.name slots ≡ None
    new_name = none_past s.name (length places) slots (omega arith) h.below

    pub added_below : (k : ℕ) (c : Slot) → slice_get (insert slots at s) k ≡ Some c → c.name < length (places ++ None ∷ [])
    added_below k c e = elim (insert_from slots at k s c e) [
      | inl same ↦ let n : c.name ≡ length places = sym (ap (λ (x : Slot). x.name) same) ∙ is in omega (arith, length-append places (None ∷ []))
      | inr r ↦ let l : c.name < length places = h.below r.0 c r.1 in omega (arith, length-append places (None ∷ []))
    ]

    pub added_different : DifferentSlots (insert slots at s)
    added_different = different_insert at slots s h.different new_name

    pub added_table : (now : List (Option ℕ)) → length now ≡ length (places ++ None ∷ [])
        → ((n : ℕ) → n < length (places ++ None ∷ []) → slice_get now n ≡ tabled n (insert slots at s) (places ++ None ∷ []))
        → IsTable now (insert slots at s)
    added_table now len entered =
        table_of (insert slots at s) (places ++ None ∷ []) now added_different added_below
        (λ n l none. let r = out_of_both n at slots s none in
        let w : n < length places = (let ne : n ≢ s.name = r.0 in behind n l (λ e. ne (e ∙ sym is))) in
        get_front places (None ∷ []) n w ∙ at_name n w r.1)
        (let f : length slots ≤ length places = h.fewer in omega (arith, length-insert slots at s, length-append places (None ∷ [])))
        (omega (arith, length-append places (None ∷ []))) len entered
      where
        behind : (n : ℕ) → n < length (places ++ None ∷ []) → n ≢ length places → n < length places
        behind n l ne = omega (arith, length-append places (None ∷ []))

-- another block of the same name
pub place_set : (n at : ℕ) (slots : List Slot) (s old : Slot) → slice_get slots at ≡ Some old → s.name ≡ old.name
    → place_in n (slice_set slots at s) ≡ place_in n slots
place_set n at [] s old there same = absurd cc
place_set n zero (c ∷ slots) s old there same =
    let is : c ≡ old = cc in
    ap (λ m. if n == m then Some 0 else option_map suc (place_in n slots)) (same ∙ ap (λ (x : Slot). x.name) (sym is))
place_set n (suc at) (c ∷ slots) s old there same =
    ap (λ o. if n == c.name then Some 0 else option_map suc o) (place_set n at slots s old there same)

different_set : (at : ℕ) (slots : List Slot) (s old : Slot) → slice_get slots at ≡ Some old → s.name ≡ old.name → DifferentSlots slots
    → DifferentSlots (slice_set slots at s)
different_set at [] s old there same d = absurd cc
different_set zero (c ∷ slots) s old there same d =
    let is : c ≡ old = cc in
    (ap (λ m. place_in m slots) (same ∙ ap (λ (x : Slot). x.name) (sym is)) ∙ d.0, d.1)
different_set (suc at) (c ∷ slots) s old there same d =
    (place_set c.name at slots s old there same ∙ d.0, different_set at slots s old there same d.1)

set_from : (slots : List Slot) (at k : ℕ) (s c : Slot) → slice_get (slice_set slots at s) k ≡ Some c → (s ≡ c) ⊎ (slice_get slots k ≡ Some c)
set_from [] at k s c e = inr e
set_from (x ∷ slots) zero zero s c e = inl cc
set_from (x ∷ slots) zero (suc k) s c e = inr e
set_from (x ∷ slots) (suc at) zero s c e = inr e
set_from (x ∷ slots) (suc at) (suc k) s c e = set_from slots at k s c e

pub set_table : (places : List (Option ℕ)) (slots : List Slot) (at : ℕ) (s : Slot) → IsTable places slots
    → IfSome (slice_get slots at) (λ old. s.name ≡ old.name) → at < length slots → IsTable places (slice_set slots at s)
set_table places slots at s h name within = by (slice_get slots at) refl name
  where
    missing : (xs : List Slot) (i : ℕ) → i < length xs → slice_get xs i ≡ None → ⊥
    missing [] i l e = omega arith
    missing (x ∷ xs) zero l e = cc
    missing (x ∷ xs) (suc i) l e = missing xs i (omega arith) e

    by : (o : Option Slot) → slice_get slots at ≡ o → IfSome o (λ old. s.name ≡ old.name) → IsTable places (slice_set slots at s)
    by None e same = absurd (missing slots at within e)
    by (Some old) e same = record {
      table = λ n l. h.table n l ∙ ap (λ o. Some o) (sym (place_set n at slots s old e same));
      below = λ k c is. elim (set_from slots at k s c is) [
        | inl q ↦ subst (λ (x : Slot). x.name < length places) q (subst (λ m. m < length places) (sym same) (h.below at old e))
        | inr q ↦ h.below k c q
      ];
      different = different_set at slots s old e same h.different;
      fewer = (let f : length slots ≤ length places = h.fewer in omega (arith, length-set slots at s));
      few = h.few;
    }
