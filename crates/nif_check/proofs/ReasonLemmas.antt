-- Open types and the reasons of the others.
use Rattle.std.proofs.Common.{◌≡◌, ◌↔◌, ℕ, zero, suc, ◌+◌, ◌-◌, ◌<◌, Bool, true, false, List, [], ◌∷◌, ◌++◌, length, get_or, Option, Some, None, is_some, not, IsTrue, slice_get, inl, inr, refl, sym, ap, subst, ◌∙◌, arith}
use Rattle.std.proofs.lemmas.Bool.{cases_lt}
use Rattle.std.proofs.lemmas.Option.{slice_get_within, slice_get_past, slice_get-get_or}
use Rattle.nif_schema.specs.Schema.{Schema}
use Rattle.nif_schema.specs.Uses.{Reaches, Here}
use Rattle.nif_schema.specs.Reasons.{own_reason, IsOpen, IsReason, Open, Own, Uses}
use Rattle.nif_schema.specs.declared.faults.Closed.{Closed}
use Rattle.nif_uses.specs.Marks.{IsMarked, ReachesMarked}
use Rattle.nif_check.specs.Results.{with_uses}
use Rattle.nif_schema.specs.Reasons.{AreReasons}

-- a type without a reason is open
by_none : (schema : Schema) (number : ℕ) (o : Option Closed) → o ≡ None → IsReason schema number o → IsOpen schema number
by_none schema number _ e (Open is) = is
by_none schema number _ e (Own reason own) = absurd (cc)
by_none schema number _ e (Uses none reaches) = absurd (cc)

pub open_by_none : (schema : Schema) (number : ℕ) → IsReason schema number None → IsOpen schema number
open_by_none schema number is = by_none schema number None refl is

-- and one with a reason isn't
by_some : (schema : Schema) (number : ℕ) (o : Option Closed) (reason : Closed) → o ≡ Some reason → IsReason schema number o → IsOpen schema number → ⊥
by_some schema number _ reason e (Open is) open_ = absurd (cc)
by_some schema number _ reason e (Own own_one own) open_ = let none = open_ number (Here number) in absurd (cc)
by_some schema number _ reason e (Uses none reaches) open_ = reaches.closed (open_ reaches.to reaches.walk)

pub closed_by_some : (schema : Schema) (number : ℕ) (reason : Closed) → IsReason schema number (Some reason) → IsOpen schema number → ⊥
closed_by_some schema number reason is = by_some schema number (Some reason) reason refl is

-- there is one reason at most
pub one_reason : (schema : Schema) (number : ℕ) (a b : Option Closed) → IsReason schema number a → IsReason schema number b → a ≡ b
one_reason schema number _ _ (Open is) (Open is') = refl
one_reason schema number _ _ (Open is) (Own reason own) = let none = is number (Here number) in absurd (cc)
one_reason schema number _ _ (Open is) (Uses none reaches) = absurd (reaches.closed (is reaches.to reaches.walk))
one_reason schema number _ _ (Own reason own) (Open is) = let none = is number (Here number) in absurd (cc)
one_reason schema number _ _ (Own reason own) (Own reason' own') = cc
one_reason schema number _ _ (Own reason own) (Uses none reaches) = absurd (cc)
one_reason schema number _ _ (Uses none reaches) (Open is) = absurd (reaches.closed (is reaches.to reaches.walk))
one_reason schema number _ _ (Uses none reaches) (Own reason own) = absurd (cc)
one_reason schema number _ _ (Uses none reaches) (Uses none' reaches') = refl

-- ---- from the own reasons

own-within : (schema : Schema) (number : ℕ) (reason : Closed) → own_reason schema number ≡ Some reason → number < length schema
unfolding own_reason
own-within schema number reason e = elim (cases_lt number (length schema)) [
  | inl lt ↦ lt
  | inr past ↦
      let none : slice_get schema number ≡ None = slice_get_past schema number past in
      let no : own_reason schema number ≡ None = rw none refl in absurd (cc)
]

-- the marks are those of the own reasons
abbrev pub AreOwn : Schema → List Bool → Type 0
AreOwn schema marks = (k : ℕ) → k < length schema → slice_get marks k ≡ Some (is_some (own_reason schema k))

pub reason-from : (schema : Schema) (marks : List Bool) (number : ℕ) (own : Option Closed) (reaches : Bool) → length marks ≡ length schema → AreOwn schema marks
    → own_reason schema number ≡ own → (IsTrue reaches ↔ ReachesMarked schema marks number) → IsReason schema number (with_uses own reaches)
reason-from schema marks number (Some reason) reaches count are e r = Own reason e
reason-from schema marks number None true count are e r =
    let there = r.0 refl in
    let within : there.to < length schema = subst (λ (n : ℕ). there.to < n) count (slice_get_within marks there.to true there.at_end) in
    let known : is_some (own_reason schema there.to) ≡ true = let a = are there.to within in let b = there.at_end in cc in
    Uses e (record { to = there.to; walk = there.walk; closed = λ none. let no : is_some (own_reason schema there.to) ≡ false = ap (λ (o : Option Closed). is_some o) none in absurd (cc) })
reason-from schema marks number None false count are e r = Open (λ to walk. by to walk (own_reason schema to) refl)
  where
    by : (to : ℕ) → Reaches schema number to → (o : Option Closed) → own_reason schema to ≡ o → own_reason schema to ≡ None
    by to walk None e = e
    by to walk (Some reason) e =
        let marked : slice_get marks to ≡ Some true = are to (own-within schema to reason e) ∙ ap (λ (o : Option Closed). Some (is_some o)) e in
        let yes = r.1 (record { to = to; walk = walk; at_end = marked }) in absurd (cc)

-- ---- lists that grow

pub grown : {A : Type 0} (xs : List A) (n : ℕ) (y : A) (k : ℕ) (z : A) → length xs ≡ n → (k < n → slice_get xs k ≡ Some z) → (k ≡ n → y ≡ z) → k < n + 1 → slice_get (xs ++ y ∷ []) k ≡ Some z
grown [] n y zero z count old new lt = ap (λ x. Some x) (new (omega arith))
grown [] n y (suc k) z count old new lt = absurd (omega arith)
grown (x ∷ xs) n y zero z count old new lt = old (omega arith)
grown (x ∷ xs) n y (suc k) z count old new lt =
    grown xs (n - 1) y k z (omega arith) (λ l. old (omega arith)) (λ e. new (omega arith)) (omega arith)

pub open_by : (schema : Schema) (number : ℕ) (o : Option Closed) → IsReason schema number o → IsTrue (not (is_some o)) ↔ IsOpen schema number
open_by schema number None is = (λ e. open_by_none schema number is, λ open_. refl)
open_by schema number (Some reason) is = (λ e. absurd (cc), λ open_. absurd (closed_by_some schema number reason is open_))

at_true : (b : Bool) (o : Option Bool) → o ≡ Some b → (o ≡ Some true) ↔ IsTrue b
at_true b o e = (λ p. cc, λ t. e ∙ ap (λ c. Some c) t)

pub are-reasons : (schema : Schema) (own reasons : List (Option Closed)) (marks reaches : List Bool)
    → length own ≡ length schema → ((n : ℕ) → n < length schema → slice_get own n ≡ Some (own_reason schema n))
    → length marks ≡ length schema → ((n : ℕ) (r : Option Closed) → slice_get own n ≡ Some r → slice_get marks n ≡ Some (is_some r))
    → length reaches ≡ length schema → ((n : ℕ) → IsMarked reaches n ↔ ReachesMarked schema marks n)
    → length reasons ≡ length schema
    → ((n : ℕ) (r : Option Closed) (m : Bool) → slice_get own n ≡ Some r → slice_get reaches n ≡ Some m → slice_get reasons n ≡ Some (with_uses r m))
    → AreReasons schema reasons
are-reasons schema own reasons marks reaches own_count own_each mark_count mark_each reach_count reach_each count each = record {
  count = count;
  each = is;
}
  where
    is : (number : ℕ) (reason : Option Closed) → slice_get reasons number ≡ Some reason → IsReason schema number reason
    is number reason e =
        let lt : number < length schema = subst (λ (n : ℕ). number < n) count (slice_get_within reasons number reason e) in
        let own_at = own_each number lt in
        let m : Bool = get_or reaches number false in
        let at : slice_get reaches number ≡ Some m = slice_get-get_or reaches number false (omega (arith, reach_count)) in
        let mine : slice_get reasons number ≡ Some (with_uses (own_reason schema number) m) = each number (own_reason schema number) m own_at at in
        let same : with_uses (own_reason schema number) m ≡ reason = cc in
        let b = at_true m (slice_get reaches number) at in
        let r = reach_each number in
        let reached : IsTrue m ↔ ReachesMarked schema marks number = (λ t. r.0 (b.1 t), λ w. b.0 (r.1 w)) in
        let are : AreOwn schema marks = λ k k_lt. mark_each k (own_reason schema k) (own_each k k_lt) in
        subst (λ (o : Option Closed). IsReason schema number o) same
        (reason-from schema marks number (own_reason schema number) m mark_count are refl reached)

-- by the answer of `is_none`
pub open_by_test : (schema : Schema) (number : ℕ) (o : Option Closed) (b : Bool) → is_some o ≡ not b → IsReason schema number o → IsTrue b ↔ IsOpen schema number
open_by_test schema number o true e is = let i = open_by schema number o is in (λ _. i.0 (ap not e), λ open_. refl)
open_by_test schema number o false e is = let i = open_by schema number o is in (λ f. absurd (cc), λ open_. sym (ap not e) ∙ i.1 open_)
