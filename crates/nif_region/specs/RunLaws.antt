-- Lists of runs, and the vector that keeps them.
use Rattle.std.proofs.Common.{ℕ, ◌≡◌, ◌≢◌, List, [], ◌∷◌, ◌++◌, None, Some, true, false, if◌then◌else◌, nat_eq, sym, ◌∙◌, ap, refl, inl, inr, subst}
use Rattle.std.specs.Option.{option_or}
use Rattle.std.proofs.lemmas.Bool.Decides.{eqb_tells}
use Rattle.nif_region.specs.Contents.{find, without, put, AreApart}

module _ {A : Type 0} where
  pub find-append : (a b : List (ℕ × A)) (key : ℕ) → find (a ++ b) key ≡ option_or (find a key) (find b key)
  find-append [] b key = refl
  find-append (run ∷ rest) b key =
      elim (nat_eq run.0 key) as (λ t. (if t then Some run.1 else find (rest ++ b) key)
      ≡ option_or (if t then Some run.1 else find rest key) (find b key)) [
        | true ↦ refl
        | false ↦ find-append rest b key
      ]

  pub without-append : (key : ℕ) (a b : List (ℕ × A)) → without key (a ++ b) ≡ without key a ++ without key b
  without-append key [] b = refl
  without-append key (run ∷ rest) b =
      elim (nat_eq run.0 key) as (λ t. (if t then without key (rest ++ b) else run ∷ without key (rest ++ b))
      ≡ (if t then without key rest else run ∷ without key rest) ++ without key b) [
        | true ↦ without-append key rest b
        | false ↦ ap (λ l. run ∷ l) (without-append key rest b)
      ]

  pub without-none : (key : ℕ) (a : List (ℕ × A)) → find a key ≡ None → without key a ≡ a
  without-none key [] none = refl
  without-none key (run ∷ rest) none = elim (eqb_tells run.0 key) [
    | inl e ↦ absurd (let hit : (if true then Some run.1 else find rest key) ≡ None = rw e.0 at none in cc)
    | inr e ↦ rw e.0 (ap (λ l. run ∷ l) (without-none key rest (rw e.0 at none)))
  ]

  pub find-without_same : (key : ℕ) (a : List (ℕ × A)) → find (without key a) key ≡ None
  find-without_same key [] = refl
  find-without_same key (run ∷ rest) = elim (eqb_tells run.0 key) [
    | inl e ↦ rw e.0 (find-without_same key rest)
    | inr e ↦ rw (e.0, e.0) (find-without_same key rest)
  ]

  pub find-without_other : (key other : ℕ) (a : List (ℕ × A)) → other ≢ key → find (without key a) other ≡ find a other
  find-without_other key other [] ne = refl
  find-without_other key other (run ∷ rest) ne = elim (eqb_tells run.0 key) [
    | inl e ↦ elim (eqb_tells run.0 other) [
      | inl f ↦ absurd (ne (sym f.1 ∙ e.1))
      | inr f ↦ rw (e.0, f.0) (find-without_other key other rest ne)
    ]
    | inr e ↦
        rw e.0 (
        elim (nat_eq run.0 other) as (λ t. (if t then Some run.1 else find (without key rest) other)
        ≡ (if t then Some run.1 else find rest other)) [
          | true ↦ refl
          | false ↦ find-without_other key other rest ne
        ]
        )
  ]

  pub put-append : (key : ℕ) (value : A) (a b : List (ℕ × A))
      → put key value (a ++ b) ≡ put key value a ++ put key value b
  put-append key value [] b = refl
  put-append key value (run ∷ rest) b =
      ap (λ l. (run.0, if nat_eq run.0 key then value else run.1) ∷ l) (put-append key value rest b)

  pub put-none : (key : ℕ) (value : A) (a : List (ℕ × A)) → find a key ≡ None → put key value a ≡ a
  put-none key value [] none = refl
  put-none key value (run ∷ rest) none = elim (eqb_tells run.0 key) [
    | inl e ↦ absurd (let hit : (if true then Some run.1 else find rest key) ≡ None = rw e.0 at none in cc)
    | inr e ↦ rw e.0 (ap (λ l. run ∷ l) (put-none key value rest (rw e.0 at none)))
  ]

  pub find-put_same : (key : ℕ) (value old : A) (a : List (ℕ × A)) → find a key ≡ Some old
      → find (put key value a) key ≡ Some value
  find-put_same key value old [] there = absurd (cc)
  find-put_same key value old (run ∷ rest) there = elim (eqb_tells run.0 key) [
    | inl e ↦ rw e.0 refl
    | inr e ↦ rw e.0 (find-put_same key value old rest (rw e.0 at there))
  ]

  pub find-put_other : (key other : ℕ) (value : A) (a : List (ℕ × A)) → other ≢ key
      → find (put key value a) other ≡ find a other
  find-put_other key other value [] ne = refl
  find-put_other key other value (run ∷ rest) ne = elim (eqb_tells run.0 other) [
    | inl e ↦ elim (eqb_tells run.0 key) [
      | inl f ↦ absurd (ne (sym e.1 ∙ f.1))
      | inr f ↦ rw (e.0, f.0) refl
    ]
    | inr e ↦ rw e.0 (find-put_other key other value rest ne)
  ]

  -- what stands under a key stands nowhere else
  pub apart-rest : (a b : List (ℕ × A)) (key : ℕ) (value : A) → AreApart (a ++ (key, value) ∷ b)
      → (find a key ≡ None) × (find b key ≡ None)
  apart-rest [] b key value apart = (refl, apart.0)
  apart-rest (run ∷ rest) b key value apart =
      let more = apart-rest rest b key value apart.1 in
      elim (eqb_tells run.0 key) [
        | inl e ↦
            absurd (
            let all : option_or (find rest run.0) (find ((key, value) ∷ b) run.0) ≡ None = sym (find-append rest ((key, value) ∷ b) run.0) ∙ apart.0 in
            let at_key : option_or (find rest key) (find ((key, value) ∷ b) key) ≡ None = subst (λ k. option_or (find rest k) (find ((key, value) ∷ b) k) ≡ None) e.1 all in
            let hit : find ((key, value) ∷ b) key ≡ None = rw more.0 at at_key in
            elim (eqb_tells key key) [
              | inl t ↦ (let none : (if true then Some value else find b key)
                  ≡ None = rw t.0 at hit in cc)
              | inr f ↦ f.1 refl
            ]
            )
        | inr e ↦ (rw e.0 more.0, more.1)
      ]
