-- Stacks of types with marks.
use Rattle.std.proofs.Common.{◌≡◌, ℕ, zero, suc, ◌-◌, ◌<◌, ◌≤◌, ◌⊎◌, min, List, [], ◌∷◌, ◌++◌, length, take, slice_get, get_or, Some, inl, inr, refl, sym, ap, subst, ◌∙◌, arith}
use Rattle.std.proofs.lemmas.List.{length-take, take-take, take-append-le}
use Rattle.std.proofs.lemmas.Option.{slice_get_within, slice_get-get_or}
use Rattle.nif_names.specs.Marks.{Mark, Marked, AreBefore, Holds, IsFound, none_marked}
use Rattle.nif_names.specs.Kept.{AreOrdered}

-- a member of a list with one more at its end
get-push : {X : Type 0} (xs : List X) (y : X) (k : ℕ) (z : X) → slice_get (xs ++ y ∷ []) k ≡ Some z → (slice_get xs k ≡ Some z) ⊎ ((k ≡ length xs) × (y ≡ z))
get-push [] y zero z e = inr (refl, (let h : y ≡ z = cc in h))
get-push [] y (suc k) z e = absurd (cc)
get-push (x ∷ xs) y zero z e = inl e
get-push (x ∷ xs) y (suc k) z e = elim (get-push xs y k z e) [
  | inl h ↦ inl h
  | inr (a, b) ↦ inr ((let n : suc k ≡ length (x ∷ xs) = omega (arith, a) in n), b)
]

-- a member of the front of a list
get-take : {X : Type 0} (n : ℕ) (xs : List X) (k : ℕ) (z : X) → slice_get (take n xs) k ≡ Some z → slice_get xs k ≡ Some z
get-take zero [] k z e = e
get-take zero (x ∷ xs) k z e = absurd (cc)
get-take (suc n) [] k z e = e
get-take (suc n) (x ∷ xs) zero z e = e
get-take (suc n) (x ∷ xs) (suc k) z e = get-take n xs k z e

pub AreOrdered-cut : (n : ℕ) (since types : List ℕ) (marks : ℕ) → AreOrdered since (length types) marks → AreOrdered (take n since) (length (take n types)) marks
AreOrdered-cut n since types marks is = record {
  count = length-take n since ∙ ap (min n) is.count ∙ sym (length-take n types);
  within = λ i a e. is.within i a (get-take n since i a e);
  ordered = λ i j a b le e f. is.ordered i j a b le (get-take n since i a e) (get-take n since j b f);
}

-- Where a type was put there before a mark, so were those below it.
pub all-before : (m : Marked) (marks : ℕ) → AreOrdered m.since (length m.types) marks → (left at last : ℕ) → 0 < left → slice_get m.since (left - 1) ≡ Some last → last ≤ at → AreBefore m left at
all-before m marks is left at last some e le =
    let top = slice_get_within m.since (left - 1) last e in
    let count = is.count in record {
      within = omega (arith, some, top, count);
      before = λ place lt.
          let there : slice_get m.since place ≡ Some (get_or m.since place 0) = slice_get-get_or m.since place 0 (omega (arith, lt, some, top)) in
          let low = is.ordered place (left - 1) (get_or m.since place 0) last (omega (arith, lt, some)) there e in
          (get_or m.since place 0, there, omega (arith, low, le));
    }

pub none-before : (m : Marked) (count at : ℕ) → count ≡ 0 → AreBefore m count at
none-before m count at none = record { within = omega (arith, none); before = λ place lt. absurd (omega (arith, none, lt)) }

module _ (types since : List ℕ) (marks : List Mark) where
  old : Marked
  old = record { types = types; since = since; marks = marks }

  -- what was found holds of types that were there before one more was put there
  pub found-push : (kind : ℕ) (types1 since1 : List ℕ) → types1 ≡ types ++ kind ∷ [] → since1 ≡ since ++ length marks ∷ [] → length since ≡ length types
      → (key ts : List ℕ) (stop : ℕ) → IsFound (record { types = types1; since = since1; marks = marks }) key ts stop → IsFound (record { types = types; since = since; marks = marks }) key ts stop
  found-push kind types1 since1 et es even key ts stop is =
      let within = below is.count refl in
      record {
        at = is.at;
        count = is.count;
        holds = record {
          mark = is.holds.mark;
          there = record { within = within; before = λ place lt. let b = is.holds.there.before place lt in (b.0, (put place b.0 b.1 b.2).0, b.2) };
        };
        first = is.first ∙ ap (take is.count) et ∙ take-append-le is.count types (kind ∷ []) within;
      }
    where
      put : (place number : ℕ) → slice_get since1 place ≡ Some number → number ≤ is.at → (slice_get since place ≡ Some number) × (place < length types)
      put place number e le = elim (get-push since (length marks) place number (subst (λ l. slice_get l place ≡ Some number) es e)) [
        | inl h ↦ (h, (let lt = slice_get_within since place number h in omega (arith, lt, even)))
        | inr (a, b) ↦ let lt = slice_get_within marks is.at (record { key = key; count = is.count; stop = stop }) is.holds.mark in absurd (omega (arith, b, lt, le))
      ]

      below : (count : ℕ) → is.count ≡ count → is.count ≤ length types
      below zero none = omega (arith, none)
      below (suc n) some = let b = is.holds.there.before n (omega (arith, some)) in let lt = (put n b.0 b.1 b.2).1 in omega (arith, lt, some)

  -- or before others were taken off
  pub found-cut : (n : ℕ) (types1 since1 : List ℕ) → types1 ≡ take n types → since1 ≡ take n since
      → (key ts : List ℕ) (stop : ℕ) → IsFound (record { types = types1; since = since1; marks = marks }) key ts stop → IsFound (record { types = types; since = since; marks = marks }) key ts stop
  found-cut n types1 since1 et es key ts stop is =
      let few : is.count ≤ min n (length types) = let w = is.holds.there.within in let l = ap length et ∙ length-take n types in omega (arith, w, l) in
      record {
        at = is.at;
        count = is.count;
        holds = record {
          mark = is.holds.mark;
          there = record {
            within = omega (arith, few);
            before = λ place lt. let b = is.holds.there.before place lt in (b.0, get-take n since place b.0 (subst (λ l. slice_get l place ≡ Some b.0) es b.1), b.2);
          };
        };
        first = is.first ∙ ap (take is.count) et ∙ take-take is.count n types (omega (arith, few));
      }

  -- or it is what is kept now
  pub found-mark : (key : List ℕ) (count last : ℕ) (marks1 : List Mark) → marks1 ≡ marks ++ record { key = key; count = count; stop = last } ∷ []
      → (other ts : List ℕ) (stop : ℕ) → IsFound (record { types = types; since = since; marks = marks1 }) other ts stop
      → IsFound (record { types = types; since = since; marks = marks }) other ts stop ⊎ ((other ≡ key) × (ts ≡ take count types) × (stop ≡ last))
  found-mark key count last marks1 em other ts stop is =
      elim (get-push marks (record { key = key; count = count; stop = last }) is.at (record { key = other; count = is.count; stop = stop })
      (subst (λ l. slice_get l is.at ≡ Some (record { key = other; count = is.count; stop = stop })) em is.holds.mark)) [
        | inl mark ↦ inl (record {
          at = is.at;
          count = is.count;
          holds = record { mark = mark; there = record { within = is.holds.there.within; before = is.holds.there.before } };
          first = is.first;
        })
        | inr (a, b) ↦ inr (
          sym (ap (λ (m : Mark). m.key) b),
          is.first ∙ ap (λ n. take n types) (sym (ap (λ (m : Mark). m.count) b)),
          sym (ap (λ (m : Mark). m.stop) b),
        )
      ]

pub none-found : (key ts : List ℕ) (stop : ℕ) → IsFound none_marked key ts stop → ⊥
none-found key ts stop is = let e = is.holds.mark in absurd (cc)

-- what a mark of a place that holds tells
pub found-at : (m : Marked) (key : List ℕ) (at count stop : ℕ) → Holds m key at count stop → (own : Mark) → slice_get m.marks at ≡ Some own
    → (own.count ≤ length m.types) × IsFound m key (take own.count m.types) own.stop
found-at m key at count stop is own there =
    let same : own ≡ record { key = key; count = count; stop = stop } = let e = is.mark in cc in
    let few : count ≡ own.count = sym (ap (λ (x : Mark). x.count) same) in
    let what : stop ≡ own.stop = sym (ap (λ (x : Mark). x.stop) same) in
    let holds : Holds m key at own.count own.stop = subst (λ n. Holds m key at n own.stop) few (subst (λ n. Holds m key at count n) what is) in
    (holds.there.within, record { at = at; count = own.count; holds = holds; first = refl })
