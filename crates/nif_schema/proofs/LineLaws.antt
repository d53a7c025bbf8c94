-- The line of fields as a relation and as a function are one.
use Rattle.std.proofs.Common.{◌≡◌, ℕ, zero, suc, ◌+◌, ◌<◌, ◌++◌, List, length, Option, None, Some, option_and_then, refl, sym, ap, subst, ◌∙◌, arith}
use Rattle.std.proofs.lemmas.List.{append-nil}
use Rattle.nif_schema.specs.Declaration.{Field}
use Rattle.nif_schema.specs.Schema.{Schema, parent, ancestor, fields_of, line, IsLine, Root, Child, Ends}
use Rattle.nif_schema.specs.Kept.{below}
use Rattle.nif_schema.proofs.WalkLemmas.{ancestor-from_parent, ancestor_past, below-parent, line-below}

-- the last declaration of a walk
pub record IsRoot (S : Schema) (t steps root : ℕ) : Type 0 where
  pub at : ancestor S steps t ≡ Some root
  pub end : parent S root ≡ None

module _ (S : Schema) where
  root_of : (t steps : ℕ) → ancestor S steps t ≡ None → (k : ℕ) × (r : ℕ) × IsRoot S t k r
  root_of t zero e = absurd (cc)
  root_of t (suc n) e = by (ancestor S n t) refl (root_of t n)
    where
      by : (o : Option ℕ) → ancestor S n t ≡ o → (ancestor S n t ≡ None → (k : ℕ) × (r : ℕ) × IsRoot S t k r) → (k : ℕ) × (r : ℕ) × IsRoot S t k r
      by None p rest = rest p
      by (Some r) p rest =
          let step : ancestor S (suc n) t ≡ parent S r = ap (λ (o : Option ℕ). option_and_then (parent S) o) p in
          (n, r, record { at = p; end = sym step ∙ e })

  IsLine-below : (k t r : ℕ) → IsRoot S t k r → IsLine S t (below S t (suc k))
  IsLine-below zero t r root =
      let same : t ≡ r = let at = root.at in cc in
      let none : parent S t ≡ None = ap (parent S) same ∙ root.end in
      subst (IsLine S t) (sym (append-nil (fields_of S t))) (Root t none)
  IsLine-below (suc k) t r root = by (parent S t) refl (λ p above. IsLine-below k p r above)
    where
      by : (o : Option ℕ) → parent S t ≡ o → ((p : ℕ) → IsRoot S p k r → IsLine S p (below S p (suc k))) → IsLine S t (below S t (suc (suc k)))
      by None e rest =
          let past : ancestor S (k + 1) t ≡ None = ancestor_past S k 1 t e in
          let z : k + 1 ≡ suc k = omega arith in
          let none : ancestor S (suc k) t ≡ None = rw z at past in
          let at = root.at in absurd (cc)
      by (Some p) e rest =
          let above : IsRoot S p k r = record { at = sym (ancestor-from_parent S k t p e) ∙ root.at; end = root.end } in
          subst (IsLine S t) (sym (below-parent S (suc k) t p e)) (Child t p (below S p (suc k)) e (rest p above))

  -- where the walk of parents ends, the function gives the line
  pub IsLine-line : (t : ℕ) → t < length S → Ends S t → IsLine S t (line S t)
  IsLine-line t within ends =
      let root = root_of t ends.0 ends.1 in
      subst (IsLine S t) (sym (line-below S root.0 t root.1 within ends root.2.at root.2.end)) (IsLine-below root.0 t root.1 root.2)

  -- a line stands below a root
  rooted : (t : ℕ) (l : List Field) → IsLine S t l → (k : ℕ) × (r : ℕ) × IsRoot S t k r × (l ≡ below S t (suc k))
  rooted t l (Root number none) = (0, t, record { at = refl; end = none }, sym (append-nil (fields_of S t)))
  rooted t l (Child number above line e rest) =
      let up = rooted above line rest in (
        suc up.0,
        up.1,
        record { at = ancestor-from_parent S up.0 t above e ∙ up.2.at; end = up.2.end },
        ap (λ x. x ++ fields_of S t) up.3 ∙ sym (below-parent S (suc up.0) t above e),
      )

  -- and each line is the one that the function gives
  pub line-IsLine : (t : ℕ) (l : List Field) → t < length S → IsLine S t l → l ≡ line S t
  line-IsLine t l within is =
      let up = rooted t l is in
      let ends : Ends S t = (suc up.0, ap (option_and_then (parent S)) up.2.at ∙ up.2.end) in
      up.3 ∙ sym (line-below S up.0 t up.1 within ends up.2.at up.2.end)
