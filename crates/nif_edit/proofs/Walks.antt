-- Walks, and when new steps from one point make no cycle.
use Rattle.std.proofs.Common.{◌≡◌, ◌≢◌, ◌⊎◌, inl, inr, ℕ, refl, sym, subst}
use Rattle.std.proofs.lemmas.Bool.{eqb-true, eqb-false}
use Rattle.std.specs.Prelude.{◌==◌}
use Rattle.nif_graph.specs.Reach.{Walk, Here, Then}
use Rattle.nif_edit.proofs.Finding.{test}

pub either : (a b : ℕ) → (a ≡ b) ⊎ (a ≢ b)
either a b = elim (test (a == b)) [ inl p ↦ inl (eqb-true a b p) | inr p ↦ inr (eqb-false a b p) ]

-- No walk of one or more steps comes back.
abbrev pub NoCycle : (ℕ → ℕ → Type 0) → Type 0
NoCycle S = (a : ℕ) → (c : ℕ) × S a c × Walk S c a → ⊥

-- each step from elsewhere than n was a step before
abbrev pub SameBeside : ℕ → (ℕ → ℕ → Type 0) → (ℕ → ℕ → Type 0) → Type 0
SameBeside n S R = (a b : ℕ) → a ≢ n → R a b → S a b

pub joined : {S : ℕ → ℕ → Type 0} {a b c : ℕ} → Walk S a b → Walk S b c → Walk S a c
joined Here w = w
joined (Then e v) w = Then e (joined v w)

pub walk_as : {S R : ℕ → ℕ → Type 0} → ((a b : ℕ) → R a b → S a b) → {a b : ℕ} → Walk R a b → Walk S a b
walk_as h Here = Here
walk_as h (Then {a} {b} e w) = Then (h a b e) (walk_as h w)

-- fewer steps make no cycle
pub fewer : {S R : ℕ → ℕ → Type 0} → ((a b : ℕ) → R a b → S a b) → NoCycle S → NoCycle R
fewer h none a q = none a (q.0, h a q.0 q.1, walk_as h q.2)

module _ (n : ℕ) (S R : ℕ → ℕ → Type 0) (beside : SameBeside n S R) where
  -- a walk to n, up to the first time that it is there, was a walk before
  until : {a b : ℕ} → Walk R a b → b ≡ n → Walk S a n
  until (Here {a}) e = subst (λ x. Walk S a x) e Here
  until (Then {a} {b} {c} r w) e = elim (either a n) [
    | inl q ↦ subst (λ x. Walk S x n) (sym q) Here
    | inr q ↦ Then (beside a b q r) (until w e)
  ]

  -- a walk was a walk before, or it passes n
  through : {a b : ℕ} → Walk R a b → Walk S a b ⊎ (Walk R a n × (x : ℕ) × R n x × Walk R x b)
  through Here = inl Here
  through (Then {a} {b} {c} r w) = elim (either a n) [
    | inl q ↦ inr (subst (λ x. Walk R x n) (sym q) Here, b, subst (λ x. R x b) q r, w)
    | inr q ↦ elim (through w) [
      | inl v ↦ inl (Then (beside a b q r) v)
      | inr v ↦ inr (Then r v.0, v.1, v.2, v.3)
    ]
  ]

  -- Where no step from n leads to what led to n before, there is no cycle.
  pub new_steps : NoCycle S → ((x : ℕ) → R n x → Walk S x n → ⊥) → NoCycle R
  new_steps none away a (c, r, w) = elim (either a n) [
    | inl q ↦ away c (subst (λ x. R x c) q r) (until w q)
    | inr q ↦ elim (through w) [
      | inl v ↦ none a (c, beside a c q r, v)
      | inr v ↦ away v.1 v.2 (until (joined v.3 (Then r v.0)) refl)
    ]
  ]
