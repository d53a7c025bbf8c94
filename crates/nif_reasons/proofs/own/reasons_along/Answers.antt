use Rattle.std.proofs.Common.{◌≡◌, ◌<◌, ◌+◌, ◌⊎◌, inl, inr, ℕ, List, [], ◌∷◌, Option, Some, None, Contains, drop, get_or, set, length, slice_get, refl, sym, ap, subst, ◌∙◌, arith}
use Rattle.std.proofs.lemmas.List.{length-set}
use Rattle.std.proofs.lemmas.Option.{slice_get-get_or}
use Rattle.nif_schema.specs.Schema.{Schema, ancestor}
use Rattle.nif_schema.specs.Reasons.{own_reason}
use Rattle.nif_schema.specs.declared.faults.Closed.{Closed}
use Rattle.nif_schema.specs.declared.faults.Closed.TheVariants.{C3}
use Rattle.nif_reasons.specs.Visits.{AreInOrder, AreVisits}
use Rattle.nif_reasons.specs.Ways.{last_or}
use Rattle.nif_reasons.proofs.Lists.{drop-next, set-here, set-other, same-or-other, drop_past}
use Rattle.nif_reasons.proofs.OwnLemmas.{own-endless}
use Rattle.nif_reasons.proofs.VisitLemmas.{contains-none, contains-cases}
use Rattle.nif_reasons.proofs.own.reasons_along.Goals as goal

-- those that aren't in the order have the reason that they begin with
start : (S : Schema) (order : List ℕ) (reasons : List (Option Closed)) → AreVisits S order → ((k : ℕ) → k < length S → slice_get reasons k ≡ Some (Some C3))
    → (k : ℕ) → k < length S → (slice_get reasons k ≡ Some (own_reason S k)) ⊎ Contains order k
start S order reasons are each k lt = by (ancestor S (length S) k) refl
  where
    by : (o : Option ℕ) → ancestor S (length S) k ≡ o → (slice_get reasons k ≡ Some (own_reason S k)) ⊎ Contains order k
    by None e = inr (are.all k (record { within = lt; ends = e }))
    by (Some x) e = inl (each k lt ∙ ap Some (sym (own-endless S k lt (λ none. let h : None ≡ Some x = sym none ∙ e in cc))))

pub loop-number-init : goal.loop-number-init
loop-number-init c =
    let S = c.args.schema.now in
    record {
      count = c.in-Ok.ensures.count;
      each = start S c.args.order.now c.in-Ok.reasons.items c.requires.order c.in-Ok.ensures.each;
      at = c.requires.at;
      next = subst (λ l. AreInOrder S (last_or None l) c.args.order.now) (sym c.requires.start) c.requires.order.next;
    }

member : (xs : List ℕ) (i : ℕ) → i < length xs → Contains xs (get_or xs i 0)
member xs i lt = (i, lt, get-same xs i lt)
  where
    get-same : (xs : List ℕ) (i : ℕ) → i < length xs → get_or xs i (get_or xs i 0) ≡ get_or xs i 0
    get-same xs i lt = let a = sym (slice_get-get_or xs i (get_or xs i 0) lt) ∙ slice_get-get_or xs i 0 lt in cc

pub own_reason-requires-clause-rooted : goal.own_reason-requires-clause-rooted
own_reason-requires-clause-rooted c = c.requires.order.only _ (member c.args.order.now c.loop-number.number-index c.loop-number-test.true)

pub own_reason-requires-clause-next : goal.own_reason-requires-clause-next
own_reason-requires-clause-next c =
    let S = c.args.schema.now in
    let order = c.args.order.now in
    let i = c.loop-number.number-index in
    let stack = c.loop-number.way.stack.items in
    (subst (AreInOrder S (last_or None stack)) (drop-next order i (get_or order i 0) (slice_get-get_or order i 0 c.loop-number-test.true)) c.loop-number.invariant.next).0

pub index_mut-requires : goal.index_mut-requires
index_mut-requires c =
    let rooted = c.requires.order.only _ (member c.args.order.now c.loop-number.number-index c.loop-number-test.true) in
    let lt = rooted.within in
    let e = c.loop-number.invariant.count in
    omega (arith, lt, e)

-- the next one is told
more : (S : Schema) (reasons : List (Option Closed)) (n : ℕ) (rest : List ℕ) (reason : Option Closed) → n < length reasons → reason ≡ own_reason S n
    → ((k : ℕ) → k < length S → (slice_get reasons k ≡ Some (own_reason S k)) ⊎ Contains (n ∷ rest) k)
    → (k : ℕ) → k < length S → (slice_get (set reasons n reason) k ≡ Some (own_reason S k)) ⊎ Contains rest k
more S reasons n rest reason lt is each k within = elim (same-or-other n k) [
  | inl same ↦ inl (ap (slice_get (set reasons n reason)) (sym same) ∙ set-here reasons n reason lt ∙ ap Some (is ∙ ap (own_reason S) same))
  | inr other ↦ elim (each k within) [
    | inl told ↦ inl (set-other reasons n reason k other ∙ told)
    | inr waits ↦ elim (contains-cases n rest k waits) [ inl same ↦ absurd (other same) | inr later ↦ inr later ]
  ]
]

pub loop-number-preserved : goal.loop-number-preserved
loop-number-preserved c =
    let S = c.args.schema.now in
    let order = c.args.order.now in
    let i = c.loop-number.number-index in
    let n = get_or order i 0 in
    let rest = drop (i + 1) order in
    let cut : drop i order ≡ n ∷ rest = drop-next order i n (slice_get-get_or order i 0 c.loop-number-test.true) in
    let old = c.loop-number.invariant in
    let reasons = c.loop-number.reasons.items in
    record {
      count = length-set reasons n c.in-Ok-own_reason.reason ∙ old.count;
      each = more S reasons n rest c.in-Ok-own_reason.reason (let w = (c.requires.order.only n (member order i c.loop-number-test.true)).within in let e = old.count in omega (arith, w, e)) c.in-Ok-own_reason.ensures.reason
          (subst (λ l. (k : ℕ) → k < length S → (slice_get reasons k ≡ Some (own_reason S k)) ⊎ Contains l k) cut old.each);
      at = c.in-Ok-own_reason.ensures.at;
      next = subst (λ o. AreInOrder S o rest) (sym c.in-Ok-own_reason.ensures.last) (subst (AreInOrder S (last_or None c.loop-number.way.stack.items)) cut old.next).1;
    }

pub returns : goal.returns
returns c =
    let i = c.loop-number.invariant in
    let nothing : drop c.loop-number.number-index c.args.order.now ≡ [] = drop_past c.args.order.now c.loop-number.number-index c.loop-number-test.false in
    record {
      count = i.count;
      each = λ k lt. elim (i.each k lt) [ inl told ↦ told | inr waits ↦ absurd (contains-none k (subst (λ l. Contains l k) nothing waits)) ];
    }
