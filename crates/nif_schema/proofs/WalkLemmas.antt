-- The walk of parents.
use Rattle.std.proofs.Common.{◌≡◌, ℕ, zero, suc, ◌+◌, ◌-◌, ◌<◌, ◌≤◌, Bool, true, false, ◌||◌, nat_eq, true≢false, subst, eqb-true, if◌then◌else◌, List, [], ◌∷◌, ◌++◌, length, inl, inr, Option, Some, None, IsSome, slice_get, bytes_eq, option_and_then, unwrap_or, refl, sym, ap, ◌∙◌, append_assoc, arith}
use Rattle.std.specs.Option.{option_map_or}
use Rattle.std.proofs.lemmas.List.{append-nil}
use Rattle.std.proofs.lemmas.List.Quantifiers.{position-Some}
use Rattle.std.proofs.lemmas.Bool.{cases_lt}
use Rattle.nif_schema.proofs.Pigeonhole.{repeats}
use Rattle.nif_schema.specs.Declaration.{Name, Field, Declaration, inherited}
use Rattle.nif_schema.specs.Schema.{Schema, find, find_block, has_block, parent, is_a, is_a_within, ancestor, fields_of, line_within, line, Ends, IsA}
use Rattle.nif_schema.specs.Kept.{below}

and_then-Some : {A B : Type 0} (f : A → Option B) (o : Option A) (y : B) → option_and_then f o ≡ Some y → (x : A) × (o ≡ Some x) × (f x ≡ Some y)
and_then-Some f None y e = absurd (cc)
and_then-Some f (Some x) y e = (x, refl, e)

find-within : (S : Schema) (name : Name) (n : ℕ) → find S name ≡ Some n → n < length S
find-within [] name n e = absurd (cc)
find-within (d ∷ ds) name n e = (position-Some (λ x. bytes_eq name x.name) (d ∷ ds) n d e).0

eqb-refl_by : (t u : ℕ) → t ≡ u → nat_eq t u ≡ true
eqb-refl_by t u e = grind (arith, e)

or_left : (a b : Bool) → a ≡ true → (a || b) ≡ true
or_left true b e = refl
or_left false b e = absurd (true≢false (sym e))

or_right : (a b : Bool) → b ≡ true → (a || b) ≡ true
or_right true b e = refl
or_right false b e = e

pub some_from_IsSome : {A : Type 0} (o : Option A) → IsSome o → (x : A) × (o ≡ Some x)
some_from_IsSome None e = absurd (cc)
some_from_IsSome (Some x) e = (x, refl)

module _ (S : Schema) where
  -- ---- where steps lead

  pub ancestor-from_parent : (k t p : ℕ) → parent S t ≡ Some p → ancestor S (suc k) t ≡ ancestor S k p
  ancestor-from_parent zero t p e = e
  ancestor-from_parent (suc k) t p e = ap (option_and_then (parent S)) (ancestor-from_parent k t p e)

  pub ancestor-add : (k j t u : ℕ) → ancestor S j t ≡ Some u → ancestor S (k + j) t ≡ ancestor S k u
  ancestor-add zero j t u e = let z : zero + j ≡ j = omega arith in rw z e
  ancestor-add (suc k) j t u e = let z : suc k + j ≡ suc (k + j) = omega arith in rw z (ap (option_and_then (parent S)) (ancestor-add k j t u e))

  -- behind an end there is nothing
  pub ancestor_past : (k j t : ℕ) → ancestor S j t ≡ None → ancestor S (k + j) t ≡ None
  ancestor_past zero j t e = let z : zero + j ≡ j = omega arith in rw z e
  ancestor_past (suc k) j t e = let z : suc k + j ≡ suc (k + j) = omega arith in rw z (ap (option_and_then (parent S)) (ancestor_past k j t e))

  find_block-within : (name : Name) (u : ℕ) → find_block S name ≡ Some u → u < length S
  find_block-within name u e =
      let found = and_then-Some (λ number. if has_block S number then Some number else None) (find S name) u e in
      let same : found.0 ≡ u = by (has_block S found.0) found.0 u found.2 in
      let within = find-within S name found.0 found.1 in omega arith
    where
      by : (b : Bool) (n u : ℕ) → (if b then Some n else None) ≡ Some u → n ≡ u
      by true n u e = cc
      by false n u e = absurd (cc)

  -- the parent of a declaration that is known
  pub parent-at : (t : ℕ) (d : Declaration) → slice_get S t ≡ Some d → parent S t ≡ option_and_then (find_block S) (inherited d.what)
  unfolding parent
  parent-at t d e = ap (λ (o : Option Declaration). option_and_then (find_block S) (option_and_then (λ x. inherited x.what) o)) e

  pub parent-within : (t u : ℕ) → parent S t ≡ Some u → u < length S
  unfolding parent
  parent-within t u e =
      let found = and_then-Some (find_block S) (option_and_then (λ (d : Declaration). inherited d.what) (slice_get S t)) u e in
      find_block-within found.0 u found.2

  pub ancestor-within : (k t u : ℕ) → t < length S → ancestor S k t ≡ Some u → u < length S
  ancestor-within zero t u w e = let same : t ≡ u = cc in omega arith
  ancestor-within (suc k) t u w e =
      let found = and_then-Some (parent S) (ancestor S k t) u e in parent-within found.0 u found.2

  -- before a place on the walk there is one at each number of steps
  pub ancestor_before : (k m t v : ℕ) → m ≤ k → ancestor S k t ≡ Some v → (w : ℕ) × (ancestor S m t ≡ Some w)
  ancestor_before k m t v le e = by (ancestor S m t) refl
    where
      by : (o : Option ℕ) → ancestor S m t ≡ o → (w : ℕ) × (ancestor S m t ≡ Some w)
      by (Some w) p = (w, p)
      by None p =
          let past : ancestor S (k - m + m) t ≡ None = ancestor_past (k - m) m t p in
          let z : k - m + m ≡ k = omega arith in
          let none : ancestor S k t ≡ None = rw z at past in absurd (cc)

  -- a walk of as many steps as there are declarations has come to one of them twice, so a shorter one leads there
  shorter : (t : ℕ) → t < length S → (k : ℕ) → length S ≤ k → (v : ℕ) → ancestor S (length S) t ≡ Some v
      → (m : ℕ) × (m < k) × (ancestor S m t ≡ ancestor S k t)
  shorter t w k long v e =
      let f : ℕ → ℕ = λ i. unwrap_or (ancestor S i t) 0 in
      let n = length S in
      let known : (i : ℕ) → i ≤ n → ancestor S i t ≡ Some (f i) = λ i le.
      let a = ancestor_before n i t v le e in a.1 ∙ ap (λ (o : Option ℕ). Some (unwrap_or o 0)) (sym a.1) in
      let r = repeats f n (λ i le. ancestor-within i t (f i) w (known i le)) in
      let i = r.first in let j = r.second in
      let j_le : j ≤ n = omega (arith, r.within) in
      let i_le : i ≤ n = omega (arith, r.before) in
      let from_i : ancestor S (k - j + i) t ≡ ancestor S (k - j) (f i) = ancestor-add (k - j) i t (f i) (known i i_le) in
      let from_j : ancestor S (k - j + j) t ≡ ancestor S (k - j) (f j) = ancestor-add (k - j) j t (f j) (known j j_le) in
      let z : k - j + j ≡ k = omega arith in
      let end : ancestor S k t ≡ ancestor S (k - j) (f j) = rw z at from_j in
      (k - j + i, omega (arith, r.before), from_i ∙ ap (ancestor S (k - j)) r.same ∙ sym end)

  -- an ancestor is fewer steps away than there are declarations
  near_within : (most t : ℕ) → t < length S → (k u : ℕ) → k ≤ most → ancestor S k t ≡ Some u → (m : ℕ) × (m < length S) × (ancestor S m t ≡ Some u)
  near_within zero t w k u le e = (k, omega arith, e)
  near_within (suc most) t w k u le e = elim (cases_lt k (length S)) [
    | inl lt ↦ (k, lt, e)
    | inr long ↦
        let v = ancestor_before k (length S) t u long e in
        let m = shorter t w k long v.0 v.1 in
        near_within most t w m.0 u (omega (arith, m.1)) (m.2 ∙ e)
  ]

  pub near : (t : ℕ) → t < length S → (k u : ℕ) → ancestor S k t ≡ Some u → (m : ℕ) × (m < length S) × (ancestor S m t ≡ Some u)
  near t w k u e = near_within k t w k u (omega arith) e

  -- a walk that ends has ended after as many steps as there are declarations
  ended_within : (most t : ℕ) → t < length S → (k : ℕ) → k ≤ most → ancestor S k t ≡ None → ancestor S (length S) t ≡ None
  ended_within zero t w k le e = let z : k ≡ zero = omega arith in absurd (none_at_none z)
    where
      none_at_none : k ≡ zero → ⊥
      none_at_none z = let here : ancestor S zero t ≡ None = rw z at e in absurd (cc)
  ended_within (suc most) t w k le e = by (ancestor S (length S) t) refl (ended_within most t w)
    where
      by : (o : Option ℕ) → ancestor S (length S) t ≡ o → ((m : ℕ) → m ≤ most → ancestor S m t ≡ None → ancestor S (length S) t ≡ None)
          → ancestor S (length S) t ≡ None
      by None p rest = p
      by (Some v) p rest = elim (cases_lt k (length S)) [
        | inl lt ↦
            let past : ancestor S (length S - k + k) t ≡ None = ancestor_past (length S - k) k t e in
            let z : length S - k + k ≡ length S = omega arith in rw z at past
        | inr long ↦ let m = shorter t w k long v p in rest m.0 (omega (arith, m.1)) (m.2 ∙ e)
      ]

  pub ended : (t : ℕ) → t < length S → Ends S t → ancestor S (length S) t ≡ None
  ended t w ends = ended_within ends.0 t w ends.0 (omega arith) ends.1

  -- behind the last declaration of a walk there is nothing
  pub ancestor_end : (n t at : ℕ) → ancestor S n t ≡ Some at → parent S at ≡ None → ancestor S (n + 1) t ≡ None
  ancestor_end n t at e end =
      let z : n + 1 ≡ suc n = omega arith in
      ap (λ k. ancestor S k t) z ∙ ap (option_and_then (parent S)) e ∙ end

  -- ---- what an ancestor is

  -- a walk of fewer steps, as a function
  is_a-near : (most t u k : ℕ) → k ≤ most → ancestor S k t ≡ Some u → is_a_within most S t u ≡ true
  is_a-near zero t u k le e =
      let z : k ≡ zero = omega arith in
      let here : ancestor S zero t ≡ Some u = rw z at e in
      let same : t ≡ u = cc in
      eqb-refl_by t u same
  is_a-near (suc most) t u zero le e = let same : t ≡ u = cc in or_left (nat_eq t u) _ (eqb-refl_by t u same)
  is_a-near (suc most) t u (suc k) le e = by (parent S t) refl (λ p from. is_a-near most p u k (omega (arith, le)) from)
    where
      by : (o : Option ℕ) → parent S t ≡ o → ((p : ℕ) → ancestor S k p ≡ Some u → is_a_within most S p u ≡ true) → is_a_within (suc most) S t u ≡ true
      by None ep ih =
          let past : ancestor S (k + 1) t ≡ None = ancestor_past k 1 t ep in
          let z : k + 1 ≡ suc k = omega arith in
          let none : ancestor S (suc k) t ≡ None = rw z at past in absurd (cc)
      by (Some p) ep ih =
          let P : Option ℕ → Type 0 = λ o. (nat_eq t u || option_map_or (λ above. is_a_within most S above u) o false) ≡ true in
          let Q : P (Some p) = or_right (nat_eq t u) _ (ih p (sym (ancestor-from_parent k t p ep) ∙ e)) in
          subst P (sym ep) Q

  is_a-far : (most t u : ℕ) → is_a_within most S t u ≡ true → IsA S t u
  is_a-far zero t u e = (zero, ap (λ n. Some n) (eqb-true t u e))
  is_a-far (suc most) t u e = by (nat_eq t u) (parent S t) refl refl e (λ p q. is_a-far most p u q)
    where
      by : (b : Bool) (o : Option ℕ) → nat_eq t u ≡ b → parent S t ≡ o → (b || option_map_or (λ above. is_a_within most S above u) o false) ≡ true
          → ((p : ℕ) → is_a_within most S p u ≡ true → IsA S p u) → IsA S t u
      by true o eb eo q ih = (zero, ap (λ n. Some n) (eqb-true t u eb))
      by false None eb eo q ih = absurd (true≢false (sym q))
      by false (Some p) eb eo q ih = let r = ih p q in (suc r.0, ancestor-from_parent r.0 t p eo ∙ r.1)

  pub is_a-decides : (t u : ℕ) → t < length S → (is_a S t u ≡ true → IsA S t u) × (IsA S t u → is_a S t u ≡ true)
  is_a-decides t u w =
      (is_a-far (length S) t u, λ is. let m = near t w is.0 u is.1 in is_a-near (length S) t u m.0 (omega (arith, m.1)) m.2)

  -- an answer that says whether there is such a walk
  pub is_a-answer : (r : Bool) (t u : ℕ) → t < length S → (r ≡ true → IsA S t u) → (IsA S t u → r ≡ true) → r ≡ is_a S t u
  is_a-answer r t u w to from =
      let d = is_a-decides t u w in
      by r (is_a S t u) (λ e. d.1 (to e)) (λ e. from (d.0 e))
    where
      by : (r s : Bool) → (r ≡ true → s ≡ true) → (s ≡ true → r ≡ true) → r ≡ s
      by true s f g = sym (f refl)
      by false true f g = g refl
      by false false f g = refl

  -- no ancestor but those fewer steps away than there are declarations
  pub no_ancestor : (t u : ℕ) → t < length S → ((k : ℕ) → k < length S → ancestor S k t ≡ Some u → ⊥) → IsA S t u → ⊥
  no_ancestor t u w apart is = let m = near t w is.0 u is.1 in apart m.0 m.1 m.2

  -- nor behind the end of the walk
  pub no_ancestor_past : (n t u : ℕ) → ((k : ℕ) → k ≤ n → ancestor S k t ≡ Some u → ⊥) → ancestor S (n + 1) t ≡ None → IsA S t u → ⊥
  no_ancestor_past n t u apart end is = elim (cases_lt n is.0) [
    | inl lt ↦
        let past : ancestor S (is.0 - (n + 1) + (n + 1)) t ≡ None = ancestor_past (is.0 - (n + 1)) (n + 1) t end in
        let z : is.0 - (n + 1) + (n + 1) ≡ is.0 = omega arith in
        let none : ancestor S is.0 t ≡ None = rw z at past in
        let some = is.1 in cc
    | inr le ↦ apart is.0 le is.1
  ]

  -- ---- the line of fields

  pub below-parent : (k t p : ℕ) → parent S t ≡ Some p → below S t (suc k) ≡ below S p k ++ fields_of S t
  below-parent zero t p e = append-nil (fields_of S t)
  below-parent (suc k) t p e =
      let own : ℕ → List Field = λ n. option_map_or (fields_of S) (ancestor S n t) [] in
      ap (λ l. own (suc k) ++ l) (below-parent k t p e)
      ∙ sym (append_assoc (own (suc k)) (below S p k) (fields_of S t))
      ∙ ap (λ (o : Option ℕ). (option_map_or (fields_of S) o [] ++ below S p k) ++ fields_of S t) (ancestor-from_parent k t p e)

  within-below : (k t r most : ℕ) → k < most → ancestor S k t ≡ Some r → parent S r ≡ None → line_within most S t ≡ below S t (suc k)
  within-below k t r zero lt e end = absurd (omega arith)
  within-below zero t r (suc most) lt e end =
      let same : t ≡ r = cc in
      let none : parent S t ≡ None = rw same end in
      ap (λ (o : Option ℕ). option_map_or (line_within most S) o [] ++ fields_of S t) none ∙ sym (append-nil (fields_of S t))
  within-below (suc k) t r (suc most) lt e end = by (parent S t) refl (λ p e. within-below k p r most (omega arith) e end)
    where
      by : (o : Option ℕ) → parent S t ≡ o → ((p : ℕ) → ancestor S k p ≡ Some r → line_within most S p ≡ below S p (suc k))
          → line_within (suc most) S t ≡ below S t (suc (suc k))
      by None q rest =
          let past : ancestor S (k + 1) t ≡ None = ancestor_past k 1 t q in
          let z : k + 1 ≡ suc k = omega arith in
          let none : ancestor S (suc k) t ≡ None = rw z at past in absurd (cc)
      by (Some p) q rest =
          let at : ancestor S k p ≡ Some r = sym (ancestor-from_parent k t p q) ∙ e in
          ap (λ (o : Option ℕ). option_map_or (line_within most S) o [] ++ fields_of S t) q
          ∙ ap (λ l. l ++ fields_of S t) (rest p at)
          ∙ sym (below-parent (suc k) t p q)

  -- the line is the fields from where the walk ends down to the own ones
  pub line-below : (k t r : ℕ) → t < length S → Ends S t → ancestor S k t ≡ Some r → parent S r ≡ None → line S t ≡ below S t (suc k)
  line-below k t r w ends e end = within-below k t r (length S) (steps_within k t r w ends e) e end
    where
      steps_within : (k t r : ℕ) → t < length S → Ends S t → ancestor S k t ≡ Some r → k < length S
      steps_within k t r w ends e = elim (cases_lt k (length S)) [
        | inl lt ↦ lt
        | inr le ↦
            let past : ancestor S (k - length S + length S) t ≡ None = ancestor_past (k - length S) (length S) t (ended t w ends) in
            let z : k - length S + length S ≡ k = omega arith in
            let none : ancestor S k t ≡ None = rw z at past in absurd (cc)
      ]
