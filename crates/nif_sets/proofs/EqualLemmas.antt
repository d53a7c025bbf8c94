-- What `==` says of sets, and what is kept by it.
use Rattle.std.proofs.Common.{◌≡◌, ◌↔◌, ℕ, ◌+◌, ◌<◌, Bool, true, false, cond, List, [], ◌∷◌, ◌++◌, length, take, get_or, Contains, if◌then◌else◌, inl, inr, ap, subst, sym, refl, ◌∙◌}
use Rattle.std.specs.List.{list_any}
use Rattle.std.proofs.lemmas.List.{append_assoc, take_more}
use Rattle.std.proofs.lemmas.List.Elements.{Contains-append_left, Contains-push, Contains-push_cases}
use Rattle.indexmap.proofs.CallerLemmas.{Contains-list_any}
use Rattle.std.proofs.lemmas.Bool.Decides.{Decides-eqb}
use Rattle.std.specs.Bool.{Decides}
use Rattle.nif_sets.specs.declared.sets.TypeSet.{TypeSet}
use Rattle.nif_sets.specs.declared.sets.TypeSet.TheVariants.{One, Joined}
use Rattle.nif_sets.specs.contracts.sets.TypeSetPartialEq.TheImpl.{eq-value}

pub same_set : (a b : TypeSet) → eq-value.it a b ≡ true → a ≡ b
same_set (One m) (One n) e = ap One ((Decides-eqb m n).0 e)
same_set (One m) (Joined n) e = absurd (cc)
same_set (Joined m) (One n) e = absurd (cc)
same_set (Joined m) (Joined n) e = ap Joined ((Decides-eqb m n).0 e)

same_refl : (a : TypeSet) → eq-value.it a a ≡ true
same_refl (One m) = (Decides-eqb m m).1 refl
same_refl (Joined m) = (Decides-eqb m m).1 refl

pub set-Decides : (a b : TypeSet) → Decides (eq-value.it a b) (a ≡ b)
set-Decides a b = (same_set a b, λ e. subst (λ c. eq-value.it a c ≡ true) e (same_refl a))

module _ {X : Type 0} (eq : X → X → Bool) (same_eq : (x y : X) → eq x y ≡ true → x ≡ y) where
  -- the keys of a set, with one more if it isn't there
  keys-added : (keys new : List X) (x : X) → new ≡ (if list_any (eq x) keys then keys else keys ++ x ∷ [])
      → (z : X) → Contains new z ↔ Contains (keys ++ x ∷ []) z
  keys-added keys new x is z = by (list_any (eq x) keys) refl
    where
      by : (b : Bool) → list_any (eq x) keys ≡ b → Contains new z ↔ Contains (keys ++ x ∷ []) z
      by false e =
          let h : new ≡ keys ++ x ∷ [] = is ∙ ap (λ b. cond b keys (keys ++ x ∷ [])) e in
          ((λ there. subst (λ l. Contains l z) h there), (λ there. subst (λ l. Contains l z) (sym h) there))
      by true e =
          let h : new ≡ keys = is ∙ ap (λ b. cond b keys (keys ++ x ∷ [])) e in (
            (λ there. Contains-append_left keys (x ∷ []) z (subst (λ l. Contains l z) h there)),
            (λ there. subst (λ l. Contains l z) (sym h) (elim (Contains-push_cases keys x z there) [
              | inl early ↦ early
              | inr last ↦ subst (λ w. Contains keys w) last (Contains-list_any eq same_eq keys x e)
            ])),
          )

  pub keys-more : (initial keys new items : List X) (place : ℕ) (d : X) → place < length items
      → ((z : X) → Contains keys z ↔ Contains (initial ++ take place items) z)
      → new ≡ (if list_any (eq (get_or items place d)) keys then keys else keys ++ get_or items place d ∷ [])
      → (z : X) → Contains new z ↔ Contains (initial ++ take (place + 1) items) z
  keys-more initial keys new items place d lt same is z =
      let x = get_or items place d in
      let front = initial ++ take place items in
      let whole : initial ++ take (place + 1) items ≡ front ++ x ∷ [] = ap (λ l. initial ++ l) (take_more items place d lt) ∙ sym (append_assoc initial (take place items) (x ∷ [])) in
      let added = keys-added keys new x is z in (
        (λ there. subst (λ l. Contains l z) (sym whole) (elim (Contains-push_cases keys x z (added.0 there)) [
          | inl early ↦ Contains-append_left front (x ∷ []) z ((same z).0 early)
          | inr last ↦ subst (λ w. Contains (front ++ x ∷ []) w) last (Contains-push front x)
        ])),
        (λ there. added.1 (elim (Contains-push_cases front x z (subst (λ l. Contains l z) whole there)) [
          | inl early ↦ Contains-append_left keys (x ∷ []) z ((same z).1 early)
          | inr last ↦ subst (λ w. Contains (keys ++ x ∷ []) w) last (Contains-push keys x)
        ])),
      )
