-- What a name means in sets.
use Rattle.std.proofs.Common.{◌≡◌, ◌≢◌, ◌↔◌, ℕ, zero, suc, ◌<◌, get_or, arith, Bool, true, false, ◌&&◌, ◌||◌, List, [], ◌∷◌, ◌++◌, length, flat_map, Contains, Option, Some, None, is_some, option_to_list, ◌⊎◌, inl, inr, ap, subst, sym, refl, ◌∙◌}
use Rattle.std.specs.List.{list_all}
use Rattle.std.proofs.lemmas.Grind.{flat_map-append}
use Rattle.std.proofs.lemmas.List.Folds.{list_all-append, list_any-append}
use Rattle.nif_names.specs.Tables.{Table}
use Rattle.nif_names.specs.Shapes.{inners}
use Rattle.nif_names.specs.declared.shapes.Shape.{Shape}
use Rattle.std.proofs.lemmas.List.{append-nil}
use Rattle.nif_sets.specs.Sets.{Known, Sets, IsSet, IsWithin, IsGrown, types_of, types_in}
use Rattle.nif_sets.specs.Kept.{AreWithin}
use Rattle.nif_sets.specs.declared.sets.TypeSet.TheVariants.{One}
use Rattle.nif_sets.specs.Insides.{is_empty, is_lacking, held_at, Means, IsInside, AreKnown}
use Rattle.nif_sets.specs.declared.sets.TypeSet.{TypeSet}
use Rattle.nif_sets.specs.declared.sets.Inside.{Inside}
use Rattle.nif_sets.proofs.LikeLemmas.{iff-append, iff-same, iff-then}

module _ (tables : List Table) (name : List ℕ) where
  pub Means-same : (types others : List ℕ) (numbers inner : Bool) (inside insides : List ℕ) → others ≡ types
      → ((k : ℕ) → Contains insides k ↔ Contains inside k) → Means tables name types numbers inner inside → Means tables name others numbers inner insides
  Means-same types others numbers inner inside insides e same is = subst (λ l. Means tables name l numbers inner insides) (sym e) (record {
    found = is.found;
    all_numbers = is.all_numbers;
    all_inner = is.all_inner;
    same_types = λ k. iff-then (same k) (is.same_types k);
  })

  pub Means-none : Means tables name [] true true []
  Means-none = record { found = refl; all_numbers = refl; all_inner = refl; same_types = λ k. ((λ h. h), (λ h. h)) }

  pub Means-append : (types others : List ℕ) (numbers inner numbers1 inner1 : Bool) (inside insides : List ℕ)
      → Means tables name types numbers inner inside → Means tables name others numbers1 inner1 insides
      → Means tables name (types ++ others) (numbers && numbers1) (inner && inner1) (inside ++ insides)
  Means-append types others numbers inner numbers1 inner1 inside insides one two =
      let f = held_at tables name in
      let whole = flat_map-append f types others in
      let left = flat_map f types in
      let right = flat_map f others in record {
        found = list_any-append (λ k. is_empty (f k)) types others ∙ ap (λ b. b || is_lacking tables name others) one.found ∙ two.found;
        all_numbers = ap (λ b. b && numbers1) one.all_numbers ∙ ap (λ b. list_all (λ s. s.number) left && b) two.all_numbers
            ∙ sym (ap (list_all (λ s. s.number)) whole ∙ list_all-append (λ s. s.number) left right);
        all_inner = ap (λ b. b && inner1) one.all_inner ∙ ap (λ b. list_all (λ s. is_some s.inner) left && b) two.all_inner
            ∙ sym (ap (list_all (λ s. is_some s.inner)) whole ∙ list_all-append (λ s. is_some s.inner) left right);
        same_types = λ k.
            iff-then (iff-append inside insides (inners left) (inners right) k (one.same_types k) (two.same_types k))
            (iff-same (inners left ++ inners right) (inners (flat_map f (types ++ others)))
            (sym (ap inners whole ∙ flat_map-append (λ s. option_to_list s.inner) left right)) k);
      }

  -- what a name means in a single type
  pub type-lacks : (number : ℕ) → held_at tables name number ≡ [] → is_lacking tables name (number ∷ []) ≡ true
  type-lacks number none = ap (λ l. is_empty l || false) none

  pub type-means : (number : ℕ) (numbers inner : Bool) (inside : List ℕ) (shapes : List Shape)
      → shapes ≡ held_at tables name number → shapes ≢ []
      → numbers ≡ list_all (λ s. s.number) shapes → inner ≡ list_all (λ s. is_some s.inner) shapes
      → ((k : ℕ) → Contains inside k ↔ Contains (inners shapes) k)
      → Means tables name (number ∷ []) numbers inner inside
  type-means number numbers inner inside shapes is some all_numbers all_inner same =
      let whole : shapes ≡ held_at tables name number ++ [] = is ∙ sym (append-nil (held_at tables name number)) in record {
        found = ap (λ l. is_empty l || false) (sym is) ∙ filled shapes some;
        all_numbers = all_numbers ∙ ap (list_all (λ s. s.number)) whole;
        all_inner = all_inner ∙ ap (list_all (λ s. is_some s.inner)) whole;
        same_types = λ k. iff-then (same k) (iff-same (inners shapes) (inners (held_at tables name number ++ [])) (ap inners whole) k);
      }
    where
      filled : (l : List Shape) → l ≢ [] → (is_empty l || false) ≡ false
      filled [] h = absurd (h refl)
      filled (x ∷ xs) h = refl

  pub One-lacks : (sets : Sets) (number : ℕ) → held_at tables name number ≡ [] → is_lacking tables name (types_of sets (One number)) ≡ true
  unfolding types_in
  One-lacks sets number none = type-lacks number none

  pub One-means : (sets : Sets) (number : ℕ) (numbers inner : Bool) (inside : List ℕ) (shapes : List Shape)
      → shapes ≡ held_at tables name number → shapes ≢ []
      → numbers ≡ list_all (λ s. s.number) shapes → inner ≡ list_all (λ s. is_some s.inner) shapes
      → ((k : ℕ) → Contains inside k ↔ Contains (inners shapes) k)
      → Means tables name (types_of sets (One number)) numbers inner inside
  unfolding types_in
  One-means sets number numbers inner inside shapes is some all_numbers all_inner same =
      type-means number numbers inner inside shapes is some all_numbers all_inner same

  -- where a part lacks a name, so does the whole
  pub lacking-part : (f : TypeSet → List ℕ) (parts : List TypeSet) (place : ℕ) (d : TypeSet) → place < length parts
      → is_lacking tables name (f (get_or parts place d)) ≡ true → is_lacking tables name (flat_map f parts) ≡ true
  lacking-part f [] place d lt h = absurd (omega (arith, lt))
  lacking-part f (part ∷ parts) zero d lt h =
      list_any-append (λ k. is_empty (held_at tables name k)) (f part) (flat_map f parts) ∙ ap (λ b. b || is_lacking tables name (flat_map f parts)) h
  lacking-part f (part ∷ parts) (suc place) d lt h =
      list_any-append (λ k. is_empty (held_at tables name k)) (f part) (flat_map f parts)
      ∙ ap (λ b. is_lacking tables name (f part) || b) (lacking-part f parts place d (omega (arith, lt)) h) ∙ last (is_lacking tables name (f part))
    where
      last : (b : Bool) → (b || true) ≡ true
      last true = refl
      last false = refl

  pub IsInside-grown : (old new : Sets) (set : TypeSet) (answer : Option Inside) → IsGrown old new → IsSet old set → IsWithin old answer
      → IsInside tables old set name answer → IsInside tables new set name answer
  IsInside-grown old new set None grown there within is = ap (is_lacking tables name) (grown set there).1 ∙ is
  IsInside-grown old new set (Some inside) grown there within is =
      Means-same (types_of old set) (types_of new set) inside.numbers inside.inner (types_of old inside.set) (types_of new inside.set) (grown set there).1
      (iff-same (types_of new inside.set) (types_of old inside.set) (grown inside.set within).1) is

  pub IsInside-same : (old new : Sets) (set : TypeSet) (answer : Option Inside) → new.parts ≡ old.parts
      → IsInside tables old set name answer → IsInside tables new set name answer
  IsInside-same old new set None same is = ap (λ p. is_lacking tables name (types_in p set)) same ∙ is
  IsInside-same old new set (Some inside) same is =
      subst (λ p. Means tables name (types_in p set) inside.numbers inside.inner (types_in p inside.set)) (sym same) is

pub AreKnown-grown : (tables : List Table) (old new : Sets) → IsGrown old new → new.known ≡ old.known
    → AreWithin (length old.parts) old.known → AreKnown tables old → AreKnown tables new
AreKnown-grown tables old new grown same within are known there =
    let early = subst (λ l. Contains l known) same there in
    let w = within known early in
    IsInside-grown tables known.name old new known.set known.answer grown w.0 w.1 (are known early)

-- with one answer more
pub AreKnown-more : (tables : List Table) (old new : Sets) (more : Known) → new.parts ≡ old.parts
    → ((known : Known) → Contains new.known known → Contains old.known known ⊎ (known ≡ more))
    → IsInside tables old more.set more.name more.answer → AreKnown tables old → AreKnown tables new
AreKnown-more tables old new more same back is are known there = elim (back known there) [
  | inl early ↦ IsInside-same tables known.name old new known.set known.answer same (are known early)
  | inr last ↦ subst (λ k. IsInside tables new k.set k.name k.answer) (sym last) (IsInside-same tables more.name old new more.set more.answer same is)
]
