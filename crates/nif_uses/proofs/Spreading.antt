-- The spread of marks.
use Rattle.std.proofs.Common.{◌≡◌, ℕ, ◌⊎◌, ◌↔◌, Bool, List, [], ◌∷◌, ◌++◌, length, All, Contains, inl, inr, refl, sym, subst, arith}
use Rattle.std.proofs.lemmas.List.{take_at}
use Rattle.std.proofs.lemmas.List.Elements.{All-contains, All-take, Contains-push_cases, Contains-push}
use Rattle.nif_schema.specs.Schema.{Schema}
use Rattle.nif_schema.specs.Uses.{uses, Reaches, Here, Further}
use Rattle.nif_uses.specs.declared.users.Link.{Link}
use Rattle.nif_uses.specs.Marks.{IsMarked, ReachesMarked}
use Rattle.nif_uses.specs.Users.{Use, pairs, uses_below, AreUsersMarked, IsSpreading}
use Rattle.nif_uses.proofs.Links.{below-use, use-below, uses-within}

-- what waits is what is marked at first
pub spreading-begin : (schema : Schema) (marked : List Bool) (waiting : List ℕ) → length marked ≡ length schema → All (IsMarked marked) waiting
    → ((k : ℕ) → IsMarked marked k → Contains waiting k) → IsSpreading schema marked marked waiting
spreading-begin schema marked waiting count waits all = record {
  count = count;
  waits = waits;
  sound = λ k e. record { to = k; walk = Here k; at_end = e };
  begun = λ k e. e;
  closed = λ k e. inl (all k e);
}

-- one that waited is taken up
pub spreading-next : (schema : Schema) (links : List Link) (marked marks : List Bool) (before waiting : List ℕ) (used : ℕ) (ms : List Bool) (queue : List ℕ)
    → pairs links ≡ uses_below schema (length schema) → IsSpreading schema marked marks before → before ≡ waiting ++ used ∷ []
    → AreUsersMarked links used marks waiting ms queue → length ms ≡ length marks → IsSpreading schema marked ms queue
spreading-next schema links marked marks before waiting used ms queue all so popped m same = record {
  count = omega (arith, so.count);
  waits = m.waits rest;
  sound = sound;
  begun = λ k e. m.kept k (so.begun k e);
  closed = closed;
}
  where
    waits : All (IsMarked marks) (waiting ++ used ∷ [])
    waits = subst (λ (q : List ℕ). All (IsMarked marks) q) popped so.waits

    rest : All (IsMarked marks) waiting
    rest = subst (λ (q : List ℕ). All (IsMarked marks) q) (take_at waiting (used ∷ []) (length waiting) refl) (All-take (IsMarked marks) (length waiting) (waiting ++ used ∷ []) waits)

    is_marked : IsMarked marks used
    is_marked = All-contains (IsMarked marks) (waiting ++ used ∷ []) used waits (Contains-push waiting used)

    user_of : (k : ℕ) → Contains (pairs links) (used, k) → Contains (uses schema k) used
    user_of k c = (below-use schema (length schema) used k (subst (λ (us : List Use). Contains us (used, k)) all c)).1

    sound : (k : ℕ) → IsMarked ms k → ReachesMarked schema marked k
    sound k e = elim (m.sound k e) [
      | inl old ↦ so.sound k old
      | inr new ↦ let r = so.sound used is_marked in record { to = r.to; walk = Further k used r.to (user_of k new) r.walk; at_end = r.at_end }
    ]

    closed : (k : ℕ) → IsMarked ms k → Contains queue k ⊎ ((user : ℕ) → Contains (uses schema user) k → IsMarked ms user)
    closed k e = elim (m.queued k e) [
      | inr waits ↦ inl waits
      | inl old ↦ elim (so.closed k old) [
        | inr done ↦ inr (λ user c. m.kept user (done user c))
        | inl waited ↦ elim (Contains-push_cases waiting used k (subst (λ (q : List ℕ). Contains q k) popped waited)) [
          | inl still ↦ inl (m.still k still)
          | inr is ↦ inr (λ user c.
              let here : Contains (uses schema user) used = subst (λ (n : ℕ). Contains (uses schema user) n) (sym is) c in
              let within = uses-within schema user used here in
              m.users user (subst (λ (us : List Use). Contains us (used, user)) (sym all) (use-below schema (length schema) used user within here)))
        ]
      ]
    ]

-- where nothing waits, exactly what reaches a mark is marked
pub spreading-end : (schema : Schema) (marked marks : List Bool) → IsSpreading schema marked marks [] → (k : ℕ) → IsMarked marks k ↔ ReachesMarked schema marked k
spreading-end schema marked marks so k = (so.sound k, λ r. by k r.to r.walk r.at_end)
  where
    by : (n to : ℕ) → Reaches schema n to → IsMarked marked to → IsMarked marks n
    by n to (Here _) e = so.begun n e
    by n to (Further _ over _ c walk) e = elim (so.closed over (by over to walk e)) [
      | inl waits ↦ absurd (omega (arith, waits.1))
      | inr done ↦ done n c
    ]
