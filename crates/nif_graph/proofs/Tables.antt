-- The table of the places of names.
use Rattle.std.proofs.Common.{◌≡◌, ◌≢◌, ◌⊎◌, inl, inr, ℕ, zero, suc, ◌-◌, ◌^◌, ◌<◌, ◌≤◌, true, false, Option, Some, None, List, [], ◌∷◌, ◌++◌, length, refl, sym, ◌∙◌, ap, arith, length-append}
use Rattle.std.proofs.lemmas.Bool.{eqb-true, eqb-false, eq-eqb}
use Rattle.std.proofs.lemmas.Option.{slice_get_within}
use Rattle.std.specs.Prelude.{◌==◌, slice_get, unwrap_or}
use Rattle.std.specs.Option.{option_map}
use Rattle.nif_graph.specs.declared.slots.Slot.{Slot}
use Rattle.nif_graph.specs.Slots.{place_in, DifferentSlots, IsTable}
use Rattle.nif_graph.proofs.Marking.{test, differ, get_front, get_last}

-- the block at the place of a name has this name
pub slot_at : (name : ℕ) (slots : List Slot) (place : ℕ) → place_in name slots ≡ Some place
    → (s : Slot) × (slice_get slots place ≡ Some s) × (s.name ≡ name)
slot_at name [] place h = absurd cc
slot_at name (s ∷ slots) place h = elim (test (name == s.name)) [
  | inl q ↦
      let e : ◌≡◌ {A = Option ℕ} (Some 0) (Some place) = rw q at h in
      let e' : 0 ≡ place = cc in
      (s, ap (λ k. slice_get (s ∷ slots) k) (sym e'), sym (eqb-true name s.name q))
  | inr q ↦ later (λ k is. slot_at name slots k is) (place_in name slots) refl (rw q at h)
]
  where
    later : ((k : ℕ) → place_in name slots ≡ Some k → (x : Slot) × (slice_get slots k ≡ Some x) × (x.name ≡ name))
        → (o : Option ℕ) → place_in name slots ≡ o → option_map suc o ≡ Some place
        → (x : Slot) × (slice_get (s ∷ slots) place ≡ Some x) × (x.name ≡ name)
    later more None is e = absurd cc
    later more (Some k) is e =
        let r = more k is in
        let e' : suc k ≡ place = cc in
        (r.0, ap (λ i. slice_get (s ∷ slots) i) (sym e') ∙ r.1, r.2)

-- a name beside the others stands behind them
place_behind : (name : ℕ) (slots : List Slot) (s : Slot) → place_in name slots ≡ None → s.name ≡ name
    → place_in name (slots ++ s ∷ []) ≡ Some (length slots)
place_behind name [] s none is = rw (eq-eqb name s.name (sym is)) refl
place_behind name (c ∷ slots) s none is = elim (test (name == c.name)) [
  | inl q ↦ absurd (let z : ◌≡◌ {A = Option ℕ} (Some 0) None = rw q at none in cc)
  | inr q ↦ rw q (ap (λ o. option_map suc o) (place_behind name slots s (not_placed (place_in name slots) (rw q at none)) is))
]
  where
    not_placed : (o : Option ℕ) → option_map suc o ≡ None → o ≡ None
    not_placed None e = refl
    not_placed (Some k) e = absurd cc

-- the others stay where they are
place_before : (name : ℕ) (slots : List Slot) (s : Slot) → name ≢ s.name → place_in name (slots ++ s ∷ []) ≡ place_in name slots
place_before name [] s other = rw (differ name s.name other) refl
place_before name (c ∷ slots) s other = elim (test (name == c.name)) [
  | inl q ↦ rw q refl
  | inr q ↦ rw q (ap (λ o. option_map suc o) (place_before name slots s other))
]

-- no block has a name that is past all
pub none_past : (n next : ℕ) (slots : List Slot) → next ≤ n → ((k : ℕ) (s : Slot) → slice_get slots k ≡ Some s → s.name < next)
    → place_in n slots ≡ None
none_past n next [] past below = refl
none_past n next (s ∷ slots) past below =
    rw (differ n s.name (λ e. let l : s.name < next = below 0 s refl in omega arith))
    (ap (λ o. option_map suc o) (none_past n next slots past (λ k. below (suc k))))

different_more : (slots : List Slot) (s : Slot) → DifferentSlots slots
    → ((k : ℕ) (c : Slot) → slice_get slots k ≡ Some c → c.name ≢ s.name) → DifferentSlots (slots ++ s ∷ [])
different_more [] s d others = (refl, tt)
different_more (c ∷ slots) s d others =
    (place_before c.name slots s (others 0 c refl) ∙ d.0, different_more slots s d.1 (λ k. others (suc k)))

-- the table with one more block
pub table_more : (places : List (Option ℕ)) (slots : List Slot) (s : Slot) → IsTable places slots → s.name ≡ length places
    → length places < 2 ^ 32 - 1 → IsTable (places ++ Some (length slots) ∷ []) (slots ++ s ∷ [])
table_more places slots s h is small = record {
  table = λ n l. at n (test (n == length places)) l;
  below = λ k c e. under k c e;
  fewer = (let l : length slots ≤ length places = h.fewer in omega (arith, length-append places (Some (length slots) ∷ []), length-append slots (s ∷ [])));
  few = (omega (arith, length-append places (Some (length slots) ∷ [])));
  different = different_more slots s h.different (λ k c e same. let l : c.name < length places = h.below k c e in omega arith);
}
  where
    at : (n : ℕ) → ((n == length places) ≡ true) ⊎ ((n == length places) ≡ false)
        → n < length (places ++ Some (length slots) ∷ [])
        → slice_get (places ++ Some (length slots) ∷ []) n ≡ Some (place_in n (slots ++ s ∷ []))
    at n (inl q) l =
        let e : n ≡ length places = eqb-true n (length places) q in
        let none : place_in n slots ≡ None = none_past n (length places) slots (omega arith) h.below in
        ap (λ i. slice_get (places ++ Some (length slots) ∷ []) i) e ∙ get_last places (Some (length slots))
        ∙ ap (λ o. Some o) (sym (place_behind n slots s none (is ∙ sym e)))
    at n (inr q) l =
        let ne : n ≢ length places = eqb-false n (length places) q in
        let inside : n < length places = omega (arith, length-append places (Some (length slots) ∷ [])) in
        get_front places (Some (length slots) ∷ []) n inside ∙ h.table n inside
        ∙ ap (λ o. Some o) (sym (place_before n slots s (λ e. ne (e ∙ is))))

    under : (k : ℕ) (c : Slot) → slice_get (slots ++ s ∷ []) k ≡ Some c → c.name < length (places ++ Some (length slots) ∷ [])
    under k c e = elim (test (k == length slots)) [
      | inl q ↦
          let at_end : k ≡ length slots = eqb-true k (length slots) q in
          let this : Some s ≡ Some c = sym (get_last slots s) ∙ ap (λ i. slice_get (slots ++ s ∷ []) i) (sym at_end) ∙ e in
          let same : s ≡ c = cc in
          let name : c.name ≡ length places = sym (ap (λ (x : Slot). x.name) same) ∙ is in
          omega (arith, length-append places (Some (length slots) ∷ []))
      | inr q ↦
          let ne : k ≢ length slots = eqb-false k (length slots) q in
          let w : k < length (slots ++ s ∷ []) = slice_get_within (slots ++ s ∷ []) k c e in
          let inside : k < length slots = omega (arith, length-append slots (s ∷ [])) in
          let l : c.name < length places = h.below k c (sym (get_front slots (s ∷ []) k inside) ∙ e) in
          omega (arith, length-append places (Some (length slots) ∷ []))
    ]

-- what the table says past its end
pub past_table : (places : List (Option ℕ)) (slots : List Slot) (n : ℕ) → IsTable places slots → length places ≤ n
    → None ≡ place_in n slots
past_table places slots n h l = sym (none_past n (length places) slots l h.below)

-- what the table says of any name
pub all_places : (places : List (Option ℕ)) (slots : List Slot) → IsTable places slots → (n : ℕ)
    → unwrap_or (slice_get places n) None ≡ place_in n slots
all_places places slots h n = by (slice_get places n) refl
  where
    by : (o : Option (Option ℕ)) → slice_get places n ≡ o → unwrap_or o None ≡ place_in n slots
    by (Some x) e =
        let is : Some x ≡ Some (place_in n slots) = sym e ∙ h.table n (slice_get_within places n x e) in cc
    by None e = past_table places slots n h (outside places n e)
      where
        outside : {A : Type 0} (xs : List A) (n : ℕ) → slice_get xs n ≡ None → length xs ≤ n
        outside [] n e = omega arith
        outside (x ∷ xs) zero e = absurd cc
        outside (x ∷ xs) (suc n) e = omega (arith, outside xs n e)
