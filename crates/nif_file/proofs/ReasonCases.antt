-- Each type is open, or it has one reason.
use Rattle.std.proofs.Common.{◌≡◌, ℕ, zero, suc, ◌<◌, ◌≤◌, ◌⊎◌, inl, inr, Option, Some, None, List, [], ◌∷◌, length, get_or, Contains, refl, sym, ◌∙◌, ap, subst, arith}
use Rattle.std.proofs.lemmas.Bool.{cases_lt, cases_eq}
use Rattle.std.proofs.lemmas.Option.{slice_get_past}
use Rattle.std.proofs.lemmas.List.Elements.{Contains-append_cases, Contains-append_left, Contains-append_right}
use Rattle.nif_schema.specs.Schema.{Schema, parent}
use Rattle.nif_schema.specs.Uses.{uses, Reaches, Here, Further}
use Rattle.nif_schema.specs.Reasons.{own_reason, ReachesClosed, IsOpen, IsReason, Open, Own, Uses}
use Rattle.nif_schema.specs.declared.faults.Closed.{Closed}
use Rattle.nif_schema.specs.declared.faults.Closed.TheVariants.{C0}

-- ---- one reason

closed_by : (S : Schema) (number : ℕ) (o : Option Closed) (reason : Closed) → o ≡ Some reason → IsReason S number o → IsOpen S number → ⊥
closed_by S number _ reason e (Open is) opens = absurd (cc)
closed_by S number _ reason e (Own own is) opens = let none = opens number (Here number) in absurd (cc)
closed_by S number _ reason e (Uses none reaches) opens = reaches.closed (opens reaches.to reaches.walk)

pub not_open : (S : Schema) (number : ℕ) (reason : Closed) → IsReason S number (Some reason) → IsOpen S number → ⊥
not_open S number reason is = closed_by S number (Some reason) reason refl is

one_by : (S : Schema) (number : ℕ) (o p : Option Closed) (a b : Closed) → o ≡ Some a → p ≡ Some b → IsReason S number o → IsReason S number p → a ≡ b
one_by S number _ _ a b e f (Open is) q = absurd (cc)
one_by S number _ _ a b e f (Own x own) (Open is) = absurd (cc)
one_by S number _ _ a b e f (Own x own) (Own y own') = cc
one_by S number _ _ a b e f (Own x own) (Uses none reaches) = absurd (cc)
one_by S number _ _ a b e f (Uses none reaches) (Open is) = absurd (cc)
one_by S number _ _ a b e f (Uses none reaches) (Own y own') = absurd (cc)
one_by S number _ _ a b e f (Uses none reaches) (Uses none' reaches') = cc

pub one_reason : (S : Schema) (number : ℕ) (a b : Closed) → IsReason S number (Some a) → IsReason S number (Some b) → a ≡ b
one_reason S number a b p q = one_by S number (Some a) (Some b) a b refl refl p q

-- ---- numbers of no declaration

own_past : (S : Schema) (k : ℕ) → length S ≤ k → own_reason S k ≡ None
unfolding own_reason
own_past S k past = let none = slice_get_past S k past in rw none refl

uses_past : (S : Schema) (k : ℕ) → length S ≤ k → uses S k ≡ []
unfolding uses parent
uses_past S k past = let none = slice_get_past S k past in rw none refl

open_past : (S : Schema) (k : ℕ) → length S ≤ k → IsOpen S k
open_past S k past to walk = by k to walk past
  where
    by : (k to : ℕ) → Reaches S k to → length S ≤ k → own_reason S to ≡ None
    by k _ (Here _) past = own_past S k past
    by k to (Further _ over _ c walk) past =
        let none : Contains [] over = subst (λ (us : List ℕ). Contains us over) (uses_past S k past) c in absurd (omega (arith, none.1))

-- ---- a search: the numbers that are left are those not known to reach a closed type

abbrev In : List ℕ → ℕ → Type 0
In [] k = ⊥
In (x ∷ xs) k = (x ≡ k) ⊎ In xs k

abbrev numbers : ℕ → List ℕ
numbers zero = []
numbers (suc n) = n ∷ numbers n

in_numbers : (n k : ℕ) → k < n → In (numbers n) k
in_numbers zero k lt = absurd (omega arith)
in_numbers (suc n) k lt = elim (cases_eq n k) [
  | inl is ↦ inl is
  | inr other ↦ inr (in_numbers n k (omega (arith, other)))
]

only : (x k : ℕ) → Contains (x ∷ []) k → x ≡ k
only x k h = let z : h.0 ≡ 0 = omega (arith, h.1) in sym (ap (λ i. get_or (x ∷ []) i k) z) ∙ h.2

head : (x : ℕ) (xs : List ℕ) → Contains (x ∷ xs) x
head x xs = Contains-append_left (x ∷ []) xs x (0, omega arith, refl)

module _ (S : Schema) where
  abbrev Known : List ℕ → Type 0
  Known left = (k : ℕ) → k < length S → In left k ⊎ ReachesClosed S k

  abbrev Safe : List ℕ → ℕ → Type 0
  Safe left k = (own_reason S k ≡ None) × ((over : ℕ) → Contains (uses S k) over → In left over ⊎ (length S ≤ over))

  further : (k over : ℕ) → Contains (uses S k) over → ReachesClosed S over → ReachesClosed S k
  further k over c r = record { to = r.to; walk = Further k over r.to c r.walk; closed = r.closed }

  -- one of the uses reaches a closed type, or all are left or no declarations
  uses_in : (left : List ℕ) → Known left → (us : List ℕ)
      → ((over : ℕ) × Contains us over × ReachesClosed S over) ⊎ ((over : ℕ) → Contains us over → In left over ⊎ (length S ≤ over))
  uses_in left known [] = inr (λ over c. absurd (omega (arith, c.1)))
  uses_in left known (u ∷ us) = by (place u) (uses_in left known us)
    where
      place : (u : ℕ) → (In left u ⊎ (length S ≤ u)) ⊎ ReachesClosed S u
      place u = elim (cases_lt u (length S)) [
        | inr past ↦ inl (inr past)
        | inl lt ↦ elim (known u lt) [
          | inl is ↦ inl (inl is)
          | inr reaches ↦ inr reaches
        ]
      ]

      each : (In left u ⊎ (length S ≤ u)) → ((over : ℕ) → Contains us over → In left over ⊎ (length S ≤ over))
          → (over : ℕ) → Contains (u ∷ us) over → In left over ⊎ (length S ≤ over)
      each here rest over c = elim (Contains-append_cases (u ∷ []) us over c) [
        | inl is ↦ subst (λ (k : ℕ). In left k ⊎ (length S ≤ k)) (only u over is) here
        | inr later ↦ rest over later
      ]

      by : ((In left u ⊎ (length S ≤ u)) ⊎ ReachesClosed S u)
          → (((over : ℕ) × Contains us over × ReachesClosed S over) ⊎ ((over : ℕ) → Contains us over → In left over ⊎ (length S ≤ over)))
          → ((over : ℕ) × Contains (u ∷ us) over × ReachesClosed S over) ⊎ ((over : ℕ) → Contains (u ∷ us) over → In left over ⊎ (length S ≤ over))
      by (inr reaches) rest = inl (u, head u us, reaches)
      by (inl here) (inl r) = inl (r.0, Contains-append_right (u ∷ []) us r.0 r.1, r.2)
      by (inl here) (inr rest) = inr (each here rest)

  look : (left : List ℕ) → Known left → (k : ℕ) → ReachesClosed S k ⊎ Safe left k
  look left known k = by (own_reason S k) refl (uses_in left known (uses S k))
    where
      by : (o : Option Closed) → own_reason S k ≡ o
          → (((over : ℕ) × Contains (uses S k) over × ReachesClosed S over) ⊎ ((over : ℕ) → Contains (uses S k) over → In left over ⊎ (length S ≤ over)))
          → ReachesClosed S k ⊎ Safe left k
      by (Some reason) e r = inl (record { to = k; walk = Here k; closed = λ none. let no = sym e ∙ none in absurd (cc) })
      by None e (inl r) = inl (further k r.0 r.1 r.2)
      by None e (inr rest) = inr (e, rest)

  -- all are safe, or one of them reaches a closed type, and without it there is one less
  find : (left : List ℕ) → Known left → (xs : List ℕ)
      → ((k : ℕ) → In xs k → Safe left k) ⊎ ((x : ℕ) × (rest : List ℕ) × (length xs ≡ suc (length rest)) × ((k : ℕ) → In xs k → (x ≡ k) ⊎ In rest k) × ReachesClosed S x)
  find left known [] = inl (λ k is. absurd is)
  find left known (x ∷ xs) = by (look left known x) (find left known xs)
    where
      each : Safe left x → ((k : ℕ) → In xs k → Safe left k) → (k : ℕ) → In (x ∷ xs) k → Safe left k
      each safe rest k (inl is) = subst (λ (j : ℕ). Safe left j) is safe
      each safe rest k (inr later) = rest k later

      still : (y : ℕ) (rest : List ℕ) → ((k : ℕ) → In xs k → (y ≡ k) ⊎ In rest k) → (k : ℕ) → In (x ∷ xs) k → (y ≡ k) ⊎ In (x ∷ rest) k
      still y rest has k (inl is) = inr (inl is)
      still y rest has k (inr later) = elim (has k later) [
        | inl is ↦ inl is
        | inr there ↦ inr (inr there)
      ]

      by : (ReachesClosed S x ⊎ Safe left x)
          → (((k : ℕ) → In xs k → Safe left k) ⊎ ((y : ℕ) × (rest : List ℕ) × (length xs ≡ suc (length rest)) × ((k : ℕ) → In xs k → (y ≡ k) ⊎ In rest k) × ReachesClosed S y))
          → ((k : ℕ) → In (x ∷ xs) k → Safe left k) ⊎ ((y : ℕ) × (rest : List ℕ) × (length (x ∷ xs) ≡ suc (length rest)) × ((k : ℕ) → In (x ∷ xs) k → (y ≡ k) ⊎ In rest k) × ReachesClosed S y)
      by (inl reaches) rest = inr (x, xs, refl, (λ k is. is), reaches)
      by (inr safe) (inl rest) = inl (each safe rest)
      by (inr safe) (inr r) = inr (r.0, x ∷ r.1, ap suc r.2, still r.0 r.1 r.3, r.4)

  safe_open : (left : List ℕ) → ((k : ℕ) → In left k → Safe left k) → (k to : ℕ) → Reaches S k to → In left k → own_reason S to ≡ None
  safe_open left safe k _ (Here _) is = (safe k is).0
  safe_open left safe k to (Further _ over _ c walk) is = elim ((safe k is).1 over c) [
    | inl there ↦ safe_open left safe over to walk there
    | inr past ↦ open_past S over past to walk
  ]

  fewer : (left : List ℕ) → Known left → (x : ℕ) (rest : List ℕ) → ((k : ℕ) → In left k → (x ≡ k) ⊎ In rest k) → ReachesClosed S x → Known rest
  fewer left known x rest has reaches k lt = elim (known k lt) [
    | inr found ↦ inr found
    | inl is ↦ elim (has k is) [
      | inl same ↦ inr (subst (λ (j : ℕ). ReachesClosed S j) same reaches)
      | inr there ↦ inl there
    ]
  ]

  search_step : (n : ℕ) (left : List ℕ) → length left ≤ suc n → Known left → (k : ℕ)
      → ((rest : List ℕ) → length rest ≤ n → Known rest → IsOpen S k ⊎ ReachesClosed S k)
      → (((k : ℕ) → In left k → Safe left k) ⊎ ((x : ℕ) × (rest : List ℕ) × (length left ≡ suc (length rest)) × ((k : ℕ) → In left k → (x ≡ k) ⊎ In rest k) × ReachesClosed S x))
      → (In left k ⊎ ReachesClosed S k) → IsOpen S k ⊎ ReachesClosed S k
  search_step n left few known k more f (inr found) = inr found
  search_step n left few known k more (inl safe) (inl is) = inl (λ to walk. safe_open left safe k to walk is)
  search_step n left few known k more (inr r) (inl is) =
      let len : length left ≡ suc (length r.1) = r.2 in more r.1 (omega arith) (fewer left known r.0 r.1 r.3 r.4)

  none_left : (left : List ℕ) (k : ℕ) → length left ≤ 0 → In left k → ⊥
  none_left [] k few is = is
  none_left (x ∷ left) k few is = omega arith

  search_on : (n : ℕ) (left : List ℕ) → length left ≤ n → Known left → (k : ℕ) → k < length S → IsOpen S k ⊎ ReachesClosed S k
  search_on zero left few known k lt = elim (known k lt) [
    | inr found ↦ inr found
    | inl is ↦ absurd (none_left left k few is)
  ]
  search_on (suc n) left few known k lt =
      search_step n left few known k (λ rest few' known'. search_on n rest few' known' k lt) (find left known left) (known k lt)

  pub open_or_closed : (k : ℕ) → IsOpen S k ⊎ ((reason : Closed) × IsReason S k (Some reason))
  open_or_closed k = elim (cases_lt k (length S)) [
    | inr past ↦ inl (open_past S k past)
    | inl lt ↦ elim (search_on (length (numbers (length S))) (numbers (length S)) (omega arith) (λ j below. inl (in_numbers (length S) j below)) k lt) [
      | inl opens ↦ inl opens
      | inr reaches ↦ inr (reason (own_reason S k) refl reaches)
    ]
  ]
    where
      reason : (o : Option Closed) → own_reason S k ≡ o → ReachesClosed S k → (reason : Closed) × IsReason S k (Some reason)
      reason (Some own) e reaches = (own, Own own e)
      reason None e reaches = (C0, Uses e reaches)
