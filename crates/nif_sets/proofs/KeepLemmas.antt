-- Sets with one more, if it isn't there.
use Rattle.std.proofs.Common.{◌≡◌, ℕ, ◌+◌, Bool, true, false, if◌then◌else◌, List, [], ◌∷◌, ◌++◌, length, map, flat_map, slice_get, get_or, ◌<◌, ◌≤◌, Option, None, IfSome, Some, arith, Vec, Global, ap, subst, sym, ◌∙◌}
use Rattle.std.specs.List.{All, sum_by}
use Rattle.std.specs.Option.{option_map}
use Rattle.std.proofs.lemmas.List.{append-nil, map-append, length-append, length-map}
use Rattle.std.proofs.lemmas.List.Elements.{All-contains}
use Rattle.std.proofs.lemmas.List.Sums.{sum_by-append}
use Rattle.std.proofs.lemmas.Option.{slice_get-map, slice_get-get_or}
use Rattle.nif_sets.specs.Sets.{Known, types_in, IsBelow, size}
use Rattle.nif_sets.specs.Kept.{AreBefore, IsKept}
use Rattle.nif_sets.specs.declared.sets.Inside.{Inside}
use Rattle.nif_sets.specs.declared.sets.TypeSet.{TypeSet}
use Rattle.nif_sets.specs.declared.sets.TypeSet.TheVariants.{Joined}
use Rattle.nif_sets.proofs.SetLemmas.{AreBefore-push, IsBelow-more, types-joined, types-kept, flat_map-agree}

-- the parts of sets
abbrev pub parts : List (Vec TypeSet Global) → List (List TypeSet)
parts keys = map (λ own. own.items) keys

-- the parts at a place
pub part-at : (keys : List (Vec TypeSet Global)) (number : ℕ) (own : Vec TypeSet Global) (sets : List TypeSet)
    → own ≡ get_or keys number own → sets ≡ own.items → number < length (parts keys) → slice_get (parts keys) number ≡ Some sets
part-at keys number own sets is same lt =
    let lt_keys : number < length keys = let l = length-map keys (λ (o : Vec TypeSet Global). o.items) in omega (arith, l, lt) in
    slice_get-map (λ o. o.items) keys number
    ∙ ap (option_map (λ o. o.items)) (slice_get-get_or keys number own lt_keys ∙ ap Some (sym is))
    ∙ ap Some (sym same)

pub part-found : (keys : List (Vec TypeSet Global)) (number : ℕ) (own : Vec TypeSet Global) (sets : List TypeSet)
    → slice_get keys number ≡ Some own → own.items ≡ sets → slice_get (parts keys) number ≡ Some sets
part-found keys number own sets is same =
    slice_get-map (λ o. o.items) keys number ∙ ap (option_map (λ o. o.items)) is ∙ ap Some same

module _ (keys new : List (Vec TypeSet Global)) (own : Vec TypeSet Global) (sets : List TypeSet) (any : Bool)
    (is : new ≡ (if any then keys else keys ++ own ∷ [])) (same : own.items ≡ sets) where
  one_more : new ≡ keys ++ own ∷ [] → parts new ≡ parts keys ++ sets ∷ []
  one_more h = ap parts h ∙ map-append (λ o. o.items) keys (own ∷ []) ∙ ap (λ o. parts keys ++ o ∷ []) same

  pub more : (later : List (List TypeSet)) × (parts new ≡ parts keys ++ later)
  more = by any is
    where
      by : (b : Bool) → new ≡ (if b then keys else keys ++ own ∷ []) → (later : List (List TypeSet)) × (parts new ≡ parts keys ++ later)
      by true h = ([], ap parts h ∙ sym (append-nil (parts keys)))
      by false h = (sets ∷ [], one_more h)

  pub AreBefore-more : AreBefore (parts keys) → All (IsBelow (length (parts keys))) sets → AreBefore (parts new)
  AreBefore-more before all = by any is
    where
      by : (b : Bool) → new ≡ (if b then keys else keys ++ own ∷ []) → AreBefore (parts new)
      by true h = subst AreBefore (sym (ap parts h)) before
      by false h = subst AreBefore (sym (one_more h)) (AreBefore-push (parts keys) sets before all)

  pub size-more : (known : List Known) → size (record { parts = parts new; known = known }) ≡ size (record { parts = parts keys; known = known }) + (if any then 0 else length sets)
  size-more known = by any is
    where
      by : (b : Bool) → new ≡ (if b then keys else keys ++ own ∷ [])
          → size (record { parts = parts new; known = known }) ≡ size (record { parts = parts keys; known = known }) + (if b then 0 else length sets)
      by true h = let e = ap (λ k. sum_by length (parts k)) h in omega (arith, e)
      by false h = let e = ap (sum_by length) (one_more h) ∙ sum_by-append length (parts keys) (sets ∷ []) in omega (arith, e)

  pub IsKept-more : (known : List Known) (count more_count : ℕ) → IsKept (parts keys) known count → All (IsBelow (length (parts keys))) sets
      → more_count ≡ count + (if any then 0 else length sets) → IsKept (parts new) known more_count
  IsKept-more known count more_count kept all counts = record {
    counted = counts ∙ ap (λ n. n + (if any then 0 else length sets)) kept.counted ∙ sym (size-more known);
    before = AreBefore-more kept.before all;
    within =
        let l = ap length more.1 ∙ length-append (parts keys) more.0 in
        λ k there. let w = kept.within k there in (
          IsBelow-more (length (parts keys)) (length (parts new)) k.set (omega (arith, l)) w.0,
          farther k.answer (omega (arith, l)) w.1,
        );
  }
    where
      farther : (answer : Option Inside) → length (parts keys) ≤ length (parts new)
          → IfSome answer (λ inside. IsBelow (length (parts keys)) inside.set) → IfSome answer (λ inside. IsBelow (length (parts new)) inside.set)
      farther None le h = tt
      farther (Some inside) le h = IsBelow-more (length (parts keys)) (length (parts new)) inside.set le h

  pub types-more : AreBefore (parts keys) → All (IsBelow (length (parts keys))) sets
      → (place : ℕ) → slice_get (parts new) place ≡ Some sets → types_in (parts new) (Joined place) ≡ flat_map (types_in (parts keys)) sets
  types-more before all place at =
      types-joined (parts new) place sets (AreBefore-more before all) at
      ∙ flat_map-agree (types_in (parts new)) (types_in (parts keys)) sets
      (λ part there. ap (λ p. types_in p part) more.1 ∙ types-kept (parts keys) more.0 part (All-contains (IsBelow (length (parts keys))) sets part all there))
