-- Tables of names.
use Rattle.std.proofs.Common.{◌≡◌, ℕ, suc, Bool, true, false, cond, ◌⊎◌, ◌||◌, ltb, List, [], ◌∷◌, ◌++◌, length, get_or, set, Option, Some, None, position, bytes_eq, refl, sym, ap, subst, ◌∙◌, true≢false, inl, inr, arith}
use Rattle.std.specs.List.{list_any, position_or_len}
use Rattle.std.specs.Option.{option_map}
use Rattle.std.proofs.lemmas.Grind.{common_steps}
use Rattle.std.proofs.lemmas.Slice.Eq.{bytes_eq-Decides}
use Rattle.nif_names.specs.declared.shapes.Shape.{Shape}
use Rattle.nif_names.specs.Shapes.{Stack}
use Rattle.nif_names.specs.Tables.{stack_of, no_stack}

-- the first place of a list with one more element in front
pub position-cons : {X : Type 0} (p : X → Bool) (x : X) (xs : List X) → position p (x ∷ xs) ≡ cond (p x) (Some 0) (option_map suc (position p xs))
position-cons p x xs = by (p x) refl (ltb (position_or_len p xs) (length xs)) refl
  where
    by : (b : Bool) → p x ≡ b → (l : Bool) → ltb (position_or_len p xs) (length xs) ≡ l → position p (x ∷ xs) ≡ cond b (Some 0) (option_map suc (position p xs))
    by true e l h = grind (arith, common_steps)
    by false e true h = grind (arith, common_steps)
    by false e false h = grind (arith, common_steps)

-- two names that aren't the same
pub differ : (name other key : List ℕ) → bytes_eq name key ≡ false → bytes_eq other key ≡ true → bytes_eq other name ≡ false
differ name other key apart one = by (bytes_eq other name) refl
  where
    by : (b : Bool) → bytes_eq other name ≡ b → b ≡ false
    by false e = refl
    by true e =
        let same : other ≡ name = (bytes_eq-Decides other name).0 e in
        absurd (true≢false (sym one ∙ ap (λ n. bytes_eq n key) same ∙ apart))

-- the head of a list, or a place behind it
position-cases : {X : Type 0} (p : X → Bool) (x : X) (xs : List X) (i : ℕ) → position p (x ∷ xs) ≡ Some i
    → ((p x ≡ true) × (i ≡ 0)) ⊎ ((p x ≡ false) × (j : ℕ) × (i ≡ suc j) × (position p xs ≡ Some j))
position-cases {X} p x xs i e = by (p x) refl (position p xs) refl (sym (position-cons p x xs) ∙ e)
  where
    by : (b : Bool) → p x ≡ b → (o : Option ℕ) → position p xs ≡ o → cond b (Some 0) (option_map suc o) ≡ Some i
        → ((p x ≡ true) × (i ≡ 0)) ⊎ ((p x ≡ false) × (j : ℕ) × (i ≡ suc j) × (position p xs ≡ Some j))
    by true h o q f = inl (h, (let z : 0 ≡ i = cc in sym z))
    by false h None q f = absurd (cc)
    by false h (Some j) q f = inr (h, j, (let z : suc j ≡ i = cc in sym z), q)

module _ (name : List ℕ) where
  -- the stack at the place of a name
  pub stack-at : (d : Stack) (keys : List (List ℕ)) (stacks : List Stack) (i : ℕ) → position (bytes_eq name) keys ≡ Some i
      → length keys ≡ length stacks → stack_of name keys stacks ≡ get_or stacks i d
  stack-at d [] stacks i e same = absurd (cc)
  stack-at d (k ∷ keys) [] i e same = absurd (omega arith)
  stack-at d (k ∷ keys) (s ∷ stacks) i e same =
      elim (position-cases (bytes_eq name) k keys i e) [
        | inl (hit, zero_is) ↦ ap (λ b. cond b s (stack_of name keys stacks)) hit ∙ sym (ap (λ n. get_or (s ∷ stacks) n d) zero_is)
        | inr (miss, j, is, rest) ↦
            ap (λ b. cond b s (stack_of name keys stacks)) miss
            ∙ stack-at d keys stacks j rest (omega arith)
            ∙ sym (ap (λ n. get_or (s ∷ stacks) n d) is)
      ]

  -- another stack at the place of a name
  pub stack-set : (other : List ℕ) (new : Stack) (keys : List (List ℕ)) (stacks : List Stack) (i : ℕ) → position (bytes_eq name) keys ≡ Some i
      → length keys ≡ length stacks
      → stack_of other keys (set stacks i new) ≡ cond (bytes_eq other name) new (stack_of other keys stacks)
  stack-set other new [] stacks i e same = absurd (cc)
  stack-set other new (k ∷ keys) [] i e same = absurd (omega arith)
  stack-set other new (k ∷ keys) (s ∷ stacks) i e same =
      elim (position-cases (bytes_eq name) k keys i e) [
        | inl (hit, zero_is) ↦
            ap (λ n. stack_of other ((k ∷ keys)) (set (s ∷ stacks) n new)) zero_is ∙ here (bytes_eq other name) hit
        | inr (miss, j, is, rest) ↦
            ap (λ n. stack_of other ((k ∷ keys)) (set (s ∷ stacks) n new)) is
            ∙ later (bytes_eq other k) refl miss (stack-set other new keys stacks j rest (omega arith))
      ]
    where
      here : (b : Bool) → bytes_eq name k ≡ true
          → cond (bytes_eq other k) new (stack_of other keys stacks)
          ≡ cond (bytes_eq other name) new (cond (bytes_eq other k) s (stack_of other keys stacks))
      here _ hit =
          let one : name ≡ k = (bytes_eq-Decides name k).0 hit in
          ap (λ x. cond (bytes_eq other x) new (stack_of other keys stacks)) (sym one)
          ∙ twice (bytes_eq other name) ∙ ap (λ x. cond (bytes_eq other name) new (cond (bytes_eq other x) s (stack_of other keys stacks))) one
        where
          twice : (b : Bool) → cond b new (stack_of other keys stacks) ≡ cond b new (cond b s (stack_of other keys stacks))
          twice true = refl
          twice false = refl

      later : (b : Bool) → bytes_eq other k ≡ b → bytes_eq name k ≡ false → {tail : Stack}
          → tail ≡ cond (bytes_eq other name) new (stack_of other keys stacks)
          → cond (bytes_eq other k) s tail
          ≡ cond (bytes_eq other name) new (cond (bytes_eq other k) s (stack_of other keys stacks))
      later true h miss {tail} t =
          let apart = differ name other k miss h in
          ap (λ b. cond b s tail) h ∙ sym (ap (λ b. cond b new (cond (bytes_eq other k) s (stack_of other keys stacks))) apart
          ∙ ap (λ b. cond b s (stack_of other keys stacks)) h)
      later false h miss {tail} t =
          ap (λ b. cond b s tail) h ∙ t ∙ sym (ap (λ b. cond (bytes_eq other name) new (cond b s (stack_of other keys stacks))) h)

  -- a stack of a new name
  pub stack-push : (other : List ℕ) (new : Stack) (names : List (List ℕ)) (stacks : List Stack) → list_any (bytes_eq name) names ≡ false
      → length names ≡ length stacks
      → stack_of other (names ++ name ∷ []) (stacks ++ new ∷ []) ≡ cond (bytes_eq other name) new (stack_of other names stacks)
  stack-push other new [] [] none same = refl
  stack-push other new [] (s ∷ stacks) none same = absurd (omega arith)
  stack-push other new (n ∷ names) [] none same = absurd (omega arith)
  stack-push other new (n ∷ names) (s ∷ stacks) none same =
      by (bytes_eq other n) refl (stack-push other new names stacks (rest (bytes_eq name n) none) (omega arith))
    where
      rest : (b : Bool) → (b || list_any (bytes_eq name) names) ≡ false → list_any (bytes_eq name) names ≡ false
      rest true h = absurd (true≢false h)
      rest false h = h

      first : (b : Bool) → (b || list_any (bytes_eq name) names) ≡ false → b ≡ false
      first true h = h
      first false h = refl

      by : (b : Bool) → bytes_eq other n ≡ b → {tail : Stack} → tail ≡ cond (bytes_eq other name) new (stack_of other names stacks)
          → cond (bytes_eq other n) s tail ≡ cond (bytes_eq other name) new (cond (bytes_eq other n) s (stack_of other names stacks))
      by true h {tail} t =
          let apart = differ name other n (first (bytes_eq name n) none) h in
          ap (λ b. cond b s tail) h ∙ sym (ap (λ b. cond b new (cond (bytes_eq other n) s (stack_of other names stacks))) apart
          ∙ ap (λ b. cond b s (stack_of other names stacks)) h)
      by false h {tail} t = ap (λ b. cond b s tail) h ∙ t ∙ sym (ap (λ b. cond (bytes_eq other name) new (cond b s (stack_of other names stacks))) h)

  -- a name that isn't there has no shapes
  pub stack-none : (names : List (List ℕ)) (stacks : List Stack) → list_any (bytes_eq name) names ≡ false → stack_of name names stacks ≡ no_stack
  stack-none [] stacks none = refl
  stack-none (n ∷ names) [] none = refl
  stack-none (n ∷ names) (s ∷ stacks) none = by (bytes_eq name n) none (λ h. stack-none names stacks h)
    where
      by : (b : Bool) → (b || list_any (bytes_eq name) names) ≡ false → (list_any (bytes_eq name) names ≡ false → stack_of name names stacks ≡ no_stack)
          → cond b s (stack_of name names stacks) ≡ no_stack
      by true h rest = absurd (true≢false h)
      by false h rest = rest h

  -- a changed stack
  module _ (new d : Stack) (other : List ℕ) (keys : List (List ℕ)) (stacks : List Stack) (i : ℕ)
      (at : position (bytes_eq name) keys ≡ Some i) (same : length keys ≡ length stacks) where
    old : Stack
    old = stack_of other keys stacks

    given : bytes_eq other name ≡ true → get_or stacks i d ≡ old
    unfolding old
    given h =
        let one : name ≡ other = sym ((bytes_eq-Decides other name).0 h) in
        sym (stack-at d keys stacks i at same) ∙ ap (λ n. stack_of n keys stacks) one

    pub shapes-change : (f : List Shape → List Shape) → new.shapes ≡ f (get_or stacks i d).shapes
        → (stack_of other keys (set stacks i new)).shapes
        ≡ cond (bytes_eq other name) (f (stack_of other keys stacks).shapes) (stack_of other keys stacks).shapes
    unfolding old
    shapes-change f is = ap (λ s. s.shapes) (stack-set other new keys stacks i at same) ∙ by (bytes_eq other name) refl
      where
        by : (b : Bool) → bytes_eq other name ≡ b → (cond b new old).shapes ≡ cond b (f old.shapes) old.shapes
        by false h = refl
        by true h = is ∙ ap (λ s. f s.shapes) (given h)

    pub types-same : new.kinds.types ≡ (get_or stacks i d).kinds.types
        → (stack_of other keys (set stacks i new)).kinds.types ≡ (stack_of other keys stacks).kinds.types
    unfolding old
    types-same is = ap (λ s. s.kinds.types) (stack-set other new keys stacks i at same) ∙ by (bytes_eq other name) refl
      where
        by : (b : Bool) → bytes_eq other name ≡ b → (cond b new old).kinds.types ≡ old.kinds.types
        by false h = refl
        by true h = is ∙ ap (λ s. s.kinds.types) (given h)

    -- what holds of the new stack holds of the old one, or something else does, where this is the name
    pub change-cases : (P Q : Stack → Type 0) → (P new → P (get_or stacks i d) ⊎ Q (get_or stacks i d))
        → P (stack_of other keys (set stacks i new))
        → P (stack_of other keys stacks) ⊎ ((other ≡ name) × Q (stack_of other keys stacks))
    unfolding old
    change-cases P Q back is = by (bytes_eq other name) refl (subst P (stack-set other new keys stacks i at same) is)
      where
        by : (b : Bool) → bytes_eq other name ≡ b → P (cond b new old) → P old ⊎ ((other ≡ name) × Q old)
        by false h p = inl p
        by true h p = elim (back p) [
          | inl q ↦ inl (subst P (given h) q)
          | inr q ↦ inr ((bytes_eq-Decides other name).0 h, subst Q (given h) q)
        ]

    pub change-back : (P : Stack → Type 0) → (P new → P (get_or stacks i d))
        → P (stack_of other keys (set stacks i new)) → P (stack_of other keys stacks)
    change-back P back is = elim (change-cases P (λ s. ⊥) (λ p. inl (back p)) is) [ inl p ↦ p | inr q ↦ absurd q.1 ]

  -- a first shape
  module _ (new : Stack) (other : List ℕ) (names : List (List ℕ)) (stacks : List Stack) (none : list_any (bytes_eq name) names ≡ false) (same : length names ≡ length stacks) where
    lacking : bytes_eq other name ≡ true → stack_of other names stacks ≡ no_stack
    lacking h =
        let one : other ≡ name = (bytes_eq-Decides other name).0 h in
        ap (λ n. stack_of n names stacks) one ∙ stack-none names stacks none

    pub shapes-first : (shape : Shape) → new.shapes ≡ shape ∷ [] → (stack_of other (names ++ name ∷ []) (stacks ++ new ∷ [])).shapes
        ≡ cond (bytes_eq other name) ((stack_of other names stacks).shapes ++ shape ∷ []) (stack_of other names stacks).shapes
    shapes-first shape is = ap (λ s. s.shapes) (stack-push other new names stacks none same) ∙ by (bytes_eq other name) refl
      where
        by : (b : Bool) → bytes_eq other name ≡ b
            → (cond b new (stack_of other names stacks)).shapes ≡ cond b ((stack_of other names stacks).shapes ++ shape ∷ []) (stack_of other names stacks).shapes
        by false h = refl
        by true h = is ∙ sym (ap (λ s. s.shapes ++ shape ∷ []) (lacking h))

    pub first-back : (P : Stack → Type 0) → (P new → P no_stack) → P (stack_of other (names ++ name ∷ []) (stacks ++ new ∷ [])) → P (stack_of other names stacks)
    first-back P back is = by (bytes_eq other name) refl (subst P (stack-push other new names stacks none same) is)
      where
        by : (b : Bool) → bytes_eq other name ≡ b → P (cond b new (stack_of other names stacks)) → P (stack_of other names stacks)
        by false h p = p
        by true h p = subst P (sym (lacking h)) (back p)
