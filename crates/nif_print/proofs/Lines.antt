-- The lines of types, one after another, and how many types are open and closed.
use Rattle.std.proofs.Common.{◌≡◌, ℕ, zero, suc, ◌+◌, ◌<◌, ◌≤◌, List, [], ◌∷◌, ◌++◌, length, take, drop, refl, sym, ap, ◌∙◌, arith, append_assoc, append-nil, Option, subst, add-one}
use Rattle.std.specs.Prelude.{slice_get, Some, None, count_by, is_some, is_none, unwrap_or, Bool, true, false}
use Rattle.nif_stream.specs.PutterLaws.{puts_more, fails_more}
use Rattle.std.proofs.Math.Seq.{take-length}
use Rattle.std.proofs.lemmas.Option.{get_or_from_slice_get}
use Rattle.std.proofs.lemmas.List.Sums.{count_by_more_yes, count_by_more_no}
use Rattle.nif_stream.specs.declared.putters.Putter.{Putter}
use Rattle.nif_stream.specs.Putting.{Puts, Fails, IsSound}
use Rattle.nif_schema.specs.Declaration.{Declaration}
use Rattle.nif_schema.specs.Schema.{Schema}
use Rattle.nif_schema.specs.Reasons.{IsReason, Open, Own, Uses, IsOpen, own_reason, AreReasons}
use Rattle.nif_schema.specs.Uses.{Here}
use Rattle.nif_schema.specs.declared.faults.Closed.{Closed}
use Rattle.nif_print.specs.Listing.{type_line, type_lines, totals, listing}

-- one more line
pub lines_suc : (schema : Schema) (reasons : List (Option Closed)) (n : ℕ) (d : Declaration) (reason : Option Closed) → slice_get schema n ≡ Some d → slice_get reasons n ≡ Some reason
    → type_lines (take n schema) (take n reasons) ++ type_line d.name reason ≡ type_lines (take (suc n) schema) (take (suc n) reasons)
lines_suc [] reasons n d reason p q = absurd (cc)
lines_suc (x ∷ schema) [] n d reason p q = absurd (cc)
lines_suc (x ∷ schema) (r ∷ reasons) zero d reason p q =
    ap (λ o. type_line (unwrap_or o d).name reason) (sym p) ∙ ap (λ o. type_line x.name (unwrap_or o reason)) (sym q) ∙ sym (append-nil (type_line x.name r))
lines_suc (x ∷ schema) (r ∷ reasons) (suc n) d reason p q =
    append_assoc (type_line x.name r) (type_lines (take n schema) (take n reasons)) (type_line d.name reason) ∙ ap (λ l. type_line x.name r ++ l) (lines_suc schema reasons n d reason p q)

-- no type, no line
lines_none : (schema : Schema) → type_lines schema [] ≡ []
lines_none [] = refl
lines_none (x ∷ schema) = refl

-- and those behind it
pub lines_rest : (schema : Schema) (reasons : List (Option Closed)) (n : ℕ)
    → type_lines (take n schema) (take n reasons) ++ type_lines (drop n schema) (drop n reasons) ≡ type_lines schema reasons
lines_rest schema reasons zero = refl
lines_rest [] reasons (suc n) = refl
lines_rest (x ∷ schema) [] (suc n) = lines_none (drop n schema)
lines_rest (x ∷ schema) (r ∷ reasons) (suc n) = append_assoc (type_line x.name r) (type_lines (take n schema) (take n reasons)) (type_lines (drop n schema) (drop n reasons)) ∙ ap (λ l. type_line x.name r ++ l) (lines_rest schema reasons n)

-- a type that is open has no reason
open_or_closed : (schema : Schema) (number : ℕ) (reason : Closed) → IsOpen schema number → IsReason schema number (Some reason) → ⊥
open_or_closed schema number reason p (Own _ q) = let none = p number (Here number) in absurd (cc)
open_or_closed schema number _ p (Uses none q) = q.closed (p q.to q.walk)

own_and_uses : {X : Type 0} (schema : Schema) (number : ℕ) (reason : Closed) → own_reason schema number ≡ Some reason → own_reason schema number ≡ None → X
own_and_uses schema number reason p q = absurd (cc)

closed_once : (schema : Schema) (number : ℕ) (a b : Closed) → IsReason schema number (Some a) → IsReason schema number (Some b) → Some a ≡ Some b
closed_once schema number a b (Own _ p) (Own _ q) = sym p ∙ q
closed_once schema number a _ (Own _ p) (Uses q _) = own_and_uses schema number a p q
closed_once schema number _ b (Uses p _) (Own _ q) = own_and_uses schema number b q p
closed_once schema number _ _ (Uses p _) (Uses q _) = refl

-- a type has one reason
pub one_reason : (schema : Schema) (number : ℕ) (a b : Option Closed) → IsReason schema number a → IsReason schema number b → a ≡ b
one_reason schema number None None p q = refl
one_reason schema number None (Some b) (Open p) q = absurd (open_or_closed schema number b p q)
one_reason schema number (Some a) None p (Open q) = absurd (open_or_closed schema number a q p)
one_reason schema number (Some a) (Some b) p q = closed_once schema number a b p q

-- the line of totals
abbrev pub last : List (Option Closed) → List ℕ
last reasons = totals (count_by is_none reasons) (count_by is_some reasons)

-- a list has an item at each place below its length
pub item_at : {X : Type 0} (xs : List X) (n : ℕ) → n < length xs → (x : X) × (slice_get xs n ≡ Some x)
item_at [] n h = absurd (omega arith)
item_at (x ∷ xs) zero h = (x, refl)
item_at (x ∷ xs) (suc n) h = item_at xs n (omega arith)

-- what was listed of a schema when this many types were looked at
pub record Listed {K : Type 0} (grew : K → List ℕ → K → Type 0) (faults : K → ℕ) (old : Putter K) (schema : Schema) (n open_types closed_types : ℕ) (new : Putter K) : Type 0 where
  pub open_within : open_types ≤ n
  pub closed_within : closed_types ≤ n
  pub sound : IsSound new
  pub opened : (reasons : List (Option Closed)) → AreReasons schema reasons → open_types ≡ count_by is_none (take n reasons)
  pub closed : (reasons : List (Option Closed)) → AreReasons schema reasons → closed_types ≡ count_by is_some (take n reasons)
  pub puts : (reasons : List (Option Closed)) → AreReasons schema reasons → Puts grew faults old (type_lines (take n schema) (take n reasons)) new

-- the reason that is listed of a type is the one that it has
pub reason_at : (schema : Schema) (reasons : List (Option Closed)) (n : ℕ) (reason : Option Closed) → n < length schema → AreReasons schema reasons → IsReason schema n reason → slice_get reasons n ≡ Some reason
reason_at schema reasons n reason h are has =
    let at = item_at reasons n (subst (λ k. n < k) (sym are.count) h) in
    at.1 ∙ ap (λ r. Some r) (one_reason schema n at.0 reason (are.each n at.0 at.1) has)

-- how many pass a test, with the next one
one_more : (test : Option Closed → Bool) (schema : Schema) (reasons : List (Option Closed)) (n : ℕ) (reason : Option Closed) → n < length schema → AreReasons schema reasons → IsReason schema n reason → test reason ≡ true
    → count_by test (take n reasons) + 1 ≡ count_by test (take (n + 1) reasons)
one_more test schema reasons n reason h are has passes =
    sym (count_by_more_yes test reasons n reason (subst (λ k. n < k) (sym are.count) h) (ap test (get_or_from_slice_get reasons n reason reason (reason_at schema reasons n reason h are has)) ∙ passes))

no_more : (test : Option Closed → Bool) (schema : Schema) (reasons : List (Option Closed)) (n : ℕ) (reason : Option Closed) → n < length schema → AreReasons schema reasons → IsReason schema n reason → test reason ≡ false
    → count_by test (take n reasons) ≡ count_by test (take (n + 1) reasons)
no_more test schema reasons n reason h are has fails =
    sym (count_by_more_no test reasons n reason (subst (λ k. n < k) (sym are.count) h) (ap test (get_or_from_slice_get reasons n reason reason (reason_at schema reasons n reason h are has)) ∙ fails))

not_none : (reason : Option Closed) → is_some reason ≡ true → is_none reason ≡ false
not_none None p = sym p
not_none (Some r) p = refl

is_nothing : (reason : Option Closed) → is_some reason ≡ false → is_none reason ≡ true
is_nothing None p = refl
is_nothing (Some r) p = sym p

-- one type more, where it is open
pub listed_open : {K : Type 0} (grew : K → List ℕ → K → Type 0) (faults : K → ℕ) (old : Putter K) (schema : Schema) (n open_types closed_types : ℕ) (mid new : Putter K) (d : Declaration) (reason : Option Closed)
    → is_some reason ≡ false
    → Listed grew faults old schema n open_types closed_types mid → n < length schema → slice_get schema n ≡ Some d → IsReason schema n reason → Puts grew faults mid (type_line d.name reason) new
    → Listed grew faults old schema (n + 1) (open_types + 1) closed_types new
listed_open grew faults old schema n open_types closed_types mid new d reason is so_far h at has put = record {
  open_within = omega (arith, so_far.open_within);
  closed_within = omega (arith, so_far.closed_within);
  sound = put.sound;
  opened = λ reasons are. ap (λ k. k + 1) (so_far.opened reasons are) ∙ one_more is_none schema reasons n reason h are has (is_nothing reason is);
  closed = λ reasons are. so_far.closed reasons are ∙ no_more is_some schema reasons n reason h are has is;
  puts = λ reasons are. rw add-one (puts_more grew faults old mid new _ _ _ (so_far.puts reasons are) put (lines_suc schema reasons n d reason at (reason_at schema reasons n reason h are has)));
}

-- one type more, where it is closed
pub listed_closed : {K : Type 0} (grew : K → List ℕ → K → Type 0) (faults : K → ℕ) (old : Putter K) (schema : Schema) (n open_types closed_types : ℕ) (mid new : Putter K) (d : Declaration) (reason : Option Closed)
    → is_some reason ≡ true
    → Listed grew faults old schema n open_types closed_types mid → n < length schema → slice_get schema n ≡ Some d → IsReason schema n reason → Puts grew faults mid (type_line d.name reason) new
    → Listed grew faults old schema (n + 1) open_types (closed_types + 1) new
listed_closed grew faults old schema n open_types closed_types mid new d reason is so_far h at has put = record {
  open_within = omega (arith, so_far.open_within);
  closed_within = omega (arith, so_far.closed_within);
  sound = put.sound;
  opened = λ reasons are. so_far.opened reasons are ∙ no_more is_none schema reasons n reason h are has (not_none reason is);
  closed = λ reasons are. ap (λ k. k + 1) (so_far.closed reasons are) ∙ one_more is_some schema reasons n reason h are has is;
  puts = λ reasons are. rw add-one (puts_more grew faults old mid new _ _ _ (so_far.puts reasons are) put (lines_suc schema reasons n d reason at (reason_at schema reasons n reason h are has)));
}

-- where a write failed at a type, the first of the whole text was written
pub listed_failed : {K : Type 0} (grew : K → List ℕ → K → Type 0) (faults : K → ℕ) (old : Putter K) (schema : Schema) (n open_types closed_types : ℕ) (mid new : Putter K) (d : Declaration) (reason : Option Closed) (reasons : List (Option Closed))
    → Listed grew faults old schema n open_types closed_types mid → n < length schema → slice_get schema n ≡ Some d → IsReason schema n reason → AreReasons schema reasons → Fails grew faults mid (type_line d.name reason) new
    → Fails grew faults old (listing schema reasons) new
listed_failed grew faults old schema n open_types closed_types mid new d reason reasons so_far h at has are failed =
    fails_more grew faults old mid new (type_lines (take n schema) (take n reasons)) (type_line d.name reason) (type_lines (drop (suc n) schema) (drop (suc n) reasons) ++ last reasons) (listing schema reasons)
    (so_far.puts reasons are) failed
    (ap (λ l. l ++ (type_lines (drop (suc n) schema) (drop (suc n) reasons) ++ last reasons)) (lines_suc schema reasons n d reason at (reason_at schema reasons n reason h are has))
    ∙ sym (append_assoc (type_lines (take (suc n) schema) (take (suc n) reasons)) (type_lines (drop (suc n) schema) (drop (suc n) reasons)) (last reasons))
    ∙ ap (λ l. l ++ last reasons) (lines_rest schema reasons (suc n)))

-- when all types were looked at
pub listed_whole : {K : Type 0} (grew : K → List ℕ → K → Type 0) (faults : K → ℕ) (old : Putter K) (schema : Schema) (open_types closed_types : ℕ) (mid : Putter K) (reasons : List (Option Closed))
    → Listed grew faults old schema (length schema) open_types closed_types mid → AreReasons schema reasons
    → Puts grew faults old (type_lines schema reasons) mid × (totals open_types closed_types ≡ last reasons)
listed_whole grew faults old schema open_types closed_types mid reasons so_far are =
    let whole : take (length schema) reasons ≡ reasons = ap (λ k. take k reasons) (sym are.count) ∙ take-length reasons in (
      subst (λ l. Puts grew faults old l mid) (ap (λ l. type_lines l (take (length schema) reasons)) (take-length schema) ∙ ap (type_lines schema) whole) (so_far.puts reasons are),
      ap (λ k. totals k closed_types) (so_far.opened reasons are ∙ ap (count_by is_none) whole) ∙ ap (λ k. totals (count_by is_none reasons) k) (so_far.closed reasons are ∙ ap (count_by is_some) whole),
    )

-- the whole text was put, or its first part
pub listed_all : {K : Type 0} (grew : K → List ℕ → K → Type 0) (faults : K → ℕ) (old : Putter K) (schema : Schema) (n open_types closed_types : ℕ) (mid new : Putter K) (reasons : List (Option Closed))
    → Listed grew faults old schema n open_types closed_types mid → n ≡ length schema → AreReasons schema reasons
    → Puts grew faults mid (totals open_types closed_types) new → Puts grew faults old (listing schema reasons) new
listed_all grew faults old schema n open_types closed_types mid new reasons so_far all are put =
    let whole = listed_whole grew faults old schema open_types closed_types mid reasons (subst (λ k. Listed grew faults old schema k open_types closed_types mid) all so_far) are in
    puts_more grew faults old mid new (type_lines schema reasons) (totals open_types closed_types) (listing schema reasons) whole.0 put (ap (λ l. type_lines schema reasons ++ l) whole.1)

pub listed_part : {K : Type 0} (grew : K → List ℕ → K → Type 0) (faults : K → ℕ) (old : Putter K) (schema : Schema) (n open_types closed_types : ℕ) (mid new : Putter K) (reasons : List (Option Closed))
    → Listed grew faults old schema n open_types closed_types mid → n ≡ length schema → AreReasons schema reasons
    → Fails grew faults mid (totals open_types closed_types) new → Fails grew faults old (listing schema reasons) new
listed_part grew faults old schema n open_types closed_types mid new reasons so_far all are failed =
    let whole = listed_whole grew faults old schema open_types closed_types mid reasons (subst (λ k. Listed grew faults old schema k open_types closed_types mid) all so_far) are in
    fails_more grew faults old mid new (type_lines schema reasons) (totals open_types closed_types) [] (listing schema reasons) whole.0 failed
    (append-nil (type_lines schema reasons ++ totals open_types closed_types) ∙ ap (λ l. type_lines schema reasons ++ l) whole.1)
