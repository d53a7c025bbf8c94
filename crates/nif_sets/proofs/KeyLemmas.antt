-- What is known under keys.
use Rattle.std.proofs.Common.{◌≡◌, ℕ, ◌+◌, length, List, [], ◌∷◌, ◌++◌, map, Contains, Option, Some, IfSome, slice_get, ◌⊎◌, inl, inr, ap, subst, sym, ◌∙◌, arith}
use Rattle.std.specs.List.{sum_by}
use Rattle.std.specs.Option.{option_map}
use Rattle.std.proofs.lemmas.List.{map-append}
use Rattle.std.proofs.lemmas.List.Sums.{sum_by-append}
use Rattle.std.proofs.lemmas.List.Elements.{Contains-push_cases}
use Rattle.std.proofs.lemmas.Option.{slice_get-map, slice_get_within, get_or_from_slice_get}
use Rattle.nif_sets.specs.Sets.{Known, IsBelow}
use Rattle.nif_sets.specs.Kept.{plain_known, AreWithin}
use Rattle.nif_sets.specs.declared.sets.Key.{Key}
use Rattle.nif_sets.specs.declared.sets.Inside.{Inside}

-- what is kept at a place under an equal key is known of the name in the set
pub found-known : (key own : Key) (answer : Option Inside) (kept : List (Key × Option Inside)) (place : ℕ) → slice_get kept place ≡ Some (own, answer)
    → own.set ≡ key.set → own.name.items ≡ key.name.items → Contains (map plain_known kept) (plain_known (key, answer))
found-known key own answer kept place at same_set same_name =
    let known = map plain_known kept in
    let one : plain_known (own, answer) ≡ plain_known (key, answer) =
    ap (λ set. (let k : Known = record { set = set; name = own.name.items; answer = answer } in k)) same_set
    ∙ ap (λ name. (let k : Known = record { set = key.set; name = name; answer = answer } in k)) same_name in
    let there : slice_get known place ≡ Some (plain_known (key, answer)) =
    slice_get-map plain_known kept place ∙ ap (option_map plain_known) at ∙ ap Some one in
    (place, slice_get_within known place (plain_known (key, answer)) there, get_or_from_slice_get known place (plain_known (key, answer)) (plain_known (key, answer)) there)

module _ (key : Key) (answer : Option Inside) (old new : List (Key × Option Inside)) (is : new ≡ old ++ (key, answer) ∷ []) where
  pushed : map plain_known new ≡ map plain_known old ++ plain_known (key, answer) ∷ []
  pushed = ap (map plain_known) is ∙ map-append plain_known old ((key, answer) ∷ [])

  pub known-pushed : (known : Known) → Contains (map plain_known new) known → Contains (map plain_known old) known ⊎ (known ≡ plain_known (key, answer))
  known-pushed known there = elim (cases (map plain_known old) (plain_known (key, answer)) known (subst (λ l. Contains l known) pushed there)) [
    | inl early ↦ inl early
    | inr last ↦ inr (sym last)
  ]
    where
      cases : (l : List Known) (k known : Known) → Contains (l ++ k ∷ []) known → Contains l known ⊎ (k ≡ known)
      cases l k known h = Contains-push_cases l k known h

  -- how much is known with one answer more
  pub known_size-pushed : sum_by (λ k. length k.name + 1) (map plain_known new) ≡ sum_by (λ k. length k.name + 1) (map plain_known old) + (length key.name.items + 1)
  known_size-pushed =
      let e = ap (sum_by (λ k. length k.name + 1)) pushed ∙ sum_by-append (λ k. length k.name + 1) (map plain_known old) (plain_known (key, answer) ∷ []) in
      omega (arith, e)

-- what is known stays within bounds with one answer more
pub AreWithin-more : (count : ℕ) (old new : List Known) (more : Known) → ((known : Known) → Contains new known → Contains old known ⊎ (known ≡ more))
    → IsBelow count more.set → IfSome more.answer (λ inside. IsBelow count inside.set) → AreWithin count old → AreWithin count new
AreWithin-more count old new more back set answer within known there = elim (back known there) [
  | inl early ↦ within known early
  | inr last ↦ subst (λ k. IsBelow count k.set × IfSome k.answer (λ inside. IsBelow count inside.set)) (sym last) (set, answer)
]
