-- Where the names of a path after the first stop, and for which types.
use Rattle.std.proofs.Common.{◌≡◌, ℕ, suc, ◌+◌, ◌*◌, ◌%◌, ◌<◌, ◌≤◌, ◌↔◌, max, Bool, true, false, cond, not, ◌&&◌, ◌||◌, List, [], ◌∷◌, ◌++◌, length, map, flat_map, Contains, Option, Some, None, is_some, refl, sym, ap, subst, ◌∙◌, arith}
use Rattle.std.specs.List.{list_any, list_all}
use Rattle.std.proofs.lemmas.Bool.Decides.{nat_tests}
use Rattle.std.proofs.lemmas.Grind.{flat_map-append}
use Rattle.std.proofs.lemmas.List.Folds.{list_all-append, list_any-append}
use Rattle.nif_names.specs.Shapes.{inners}
use Rattle.nif_names.specs.Tables.{Table}
use Rattle.nif_schema.specs.Declaration.{Name}
use Rattle.nif_schema.specs.Schema.{Schema}
use Rattle.nif_schema.specs.Paths.{Meaning, goes_on, inside, is_empty, ends_path, rest_reason}
use Rattle.nif_schema.specs.declared.faults.Closed.{Closed}
use Rattle.nif_schema.specs.declared.faults.Closed.TheVariants.{C5, C6}
use Rattle.nif_sets.specs.Insides.{is_lacking, shapes_in, Means, IsInside, AreKnown}
use Rattle.nif_sets.specs.Sets.{Sets, types_of}
use Rattle.nif_sets.specs.declared.sets.Inside.{Inside}
use Rattle.nif_sets.specs.declared.sets.TypeSet.{TypeSet}
use Rattle.nif_paths.specs.Shaped.{shape, lead, AreInsides}
use Rattle.nif_paths.specs.Marks.{types_reason, rest_stop, types_stop, stop_reason}
use Rattle.nif_paths.proofs.LevelLemmas.{both_ways, all-to, all-from, any-not, flat-to, flat-from, lead-all, lacks-all, held-leads, held-lacks, go-on, all-end}

-- members in both
abbrev pub Same : {X : Type 0} → List X → List X → Type 0
Same {X} xs ys = (k : X) → Contains xs k ↔ Contains ys k

module _ {X : Type 0} (xs ys : List X) (same : Same xs ys) where
  all-both : (q : X → Bool) → list_all q xs ≡ list_all q ys
  all-both q = both_ways (list_all q xs) (list_all q ys)
      (λ h. all-from q ys (λ k is. all-to q xs k h ((same k).1 is))) (λ h. all-from q xs (λ k is. all-to q ys k h ((same k).0 is)))

  any-both : (q : X → Bool) → list_any q xs ≡ list_any q ys
  any-both q = any-not q xs ∙ ap not (all-both (λ k. not (q k))) ∙ sym (any-not q ys)

  flat-both : {Y : Type 0} (h : X → List Y) → Same (flat_map h xs) (flat_map h ys)
  flat-both h y = (
    λ is. let r = flat-to h xs y is in flat-from h ys r.0 y ((same r.0).0 r.1) r.2,
    λ is. let r = flat-to h ys y is in flat-from h xs r.0 y ((same r.0).1 r.1) r.2,
  )

-- the reason of a stop
pub reason-even : (n : ℕ) → 0 < n → n % 2 ≡ 0 → stop_reason n ≡ Some C5
unfolding stop_reason
reason-even n some even = grind (arith, nat_tests)

pub reason-odd : (n : ℕ) → n % 2 ≡ 1 → stop_reason n ≡ Some C6
unfolding stop_reason
reason-odd n odd = grind (arith, nat_tests)

-- the earlier of two stops
either : (a b : Bool) (most x y z : ℕ) → x ≤ most → y ≤ most → z ≡ max x y → cond (a || b) most z ≡ max (cond a most x) (cond b most y)
either true true most x y z lx ly e = omega arith
either true false most x y z lx ly e = omega (arith, ly)
either false true most x y z lx ly e = omega (arith, lx)
either false false most x y z lx ly e = e

both : (a b : Bool) (most x y z : ℕ) → x ≤ most → y ≤ most → z ≡ max x y → cond (a && b) z most ≡ max (cond a x most) (cond b y most)
both true true most x y z lx ly e = e
both true false most x y z lx ly e = omega (arith, lx)
both false true most x y z lx ly e = omega (arith, ly)
both false false most x y z lx ly e = omega arith

at_most : (b : Bool) (most x y : ℕ) → x ≤ most → y ≤ most → cond b x y ≤ most
at_most true most x y lx ly = lx
at_most false most x y lx ly = ly

module _ (S : Schema) where
  -- the reason that the names give is that of their stop
  pub rest-reason : (names : List Name) (ms : List Meaning) → stop_reason (rest_stop S ms names) ≡ rest_reason S ms names
  unfolding stop_reason
  rest-reason [] ms = by (list_all (ends_path S) ms)
    where
      by : (b : Bool) → stop_reason (cond b 0 1) ≡ cond b None (Some C6)
      by true = refl
      by false = refl
  rest-reason (name ∷ names) ms = by (list_all (goes_on S) ms) (list_any (λ m. is_empty (inside S name m)) ms) (rest_stop S (flat_map (inside S name) ms) names) _ (rest-reason names (flat_map (inside S name) ms))
    where
      by : (a b : Bool) (x : ℕ) (r : Option Closed) → stop_reason x ≡ r
          → stop_reason (cond a (cond b (2 * suc (length names)) x) (2 * suc (length names) + 1)) ≡ cond a (cond b (Some C5) r) (Some C6)
      by false b x r e = reason-odd (2 * suc (length names) + 1) (omega arith)
      by true true x r e = reason-even (2 * suc (length names)) (omega arith) (omega arith)
      by true false x r e = e

  pub types-reason : (names : List Name) (ks : List ℕ) → stop_reason (types_stop S ks names) ≡ types_reason S ks names
  unfolding stop_reason
  types-reason [] ks = refl
  types-reason (name ∷ names) ks = by (list_any (λ k. is_empty (lead S name k)) ks) (rest_stop S (flat_map (lead S name) ks) names) _ (rest-reason names (flat_map (lead S name) ks))
    where
      by : (b : Bool) (x : ℕ) (r : Option Closed) → stop_reason x ≡ r → stop_reason (cond b (2 * suc (length names)) x) ≡ cond b (Some C5) r
      by true x r e = reason-even (2 * suc (length names)) (omega arith) (omega arith)
      by false x r e = e

  -- the least and the greatest number
  pub rest-bound : (names : List Name) (ms : List Meaning) → rest_stop S ms names ≤ 2 * length names + 1
  rest-bound [] ms = at_most (list_all (ends_path S) ms) 1 0 1 (omega arith) (omega arith)
  rest-bound (name ∷ names) ms =
      let r = rest-bound names (flat_map (inside S name) ms) in
      at_most (list_all (goes_on S) ms) (2 * suc (length names) + 1) _ (2 * suc (length names) + 1)
      (at_most (list_any (λ m. is_empty (inside S name m)) ms) (2 * suc (length names) + 1) (2 * suc (length names)) (rest_stop S (flat_map (inside S name) ms) names) (omega arith) (omega (arith, r))) (omega arith)

  pub types-bound : (names : List Name) (ks : List ℕ) → types_stop S ks names ≤ 2 * length names
  types-bound [] ks = omega arith
  types-bound (name ∷ names) ks =
      let r = rest-bound names (flat_map (lead S name) ks) in
      at_most (list_any (λ k. is_empty (lead S name k)) ks) (2 * suc (length names)) (2 * suc (length names)) (rest_stop S (flat_map (lead S name) ks) names) (omega arith) (omega (arith, r))

  pub rest-none : (names : List Name) → rest_stop S [] names ≡ 0
  rest-none [] = refl
  rest-none (name ∷ names) = rest-none names

  pub types-none : (names : List Name) → types_stop S [] names ≡ 0
  types-none [] = refl
  types-none (name ∷ names) = rest-none names

  -- more meanings stop where the first of them stops
  pub rest-append : (names : List Name) (xs ys : List Meaning) → rest_stop S (xs ++ ys) names ≡ max (rest_stop S xs names) (rest_stop S ys names)
  rest-append [] xs ys = ap (λ b. cond b 0 1) (list_all-append (ends_path S) xs ys) ∙ both (list_all (ends_path S) xs) (list_all (ends_path S) ys) 1 0 0 0 (omega arith) (omega arith) (omega arith)
  rest-append (name ∷ names) xs ys =
      let most = 2 * suc (length names) in
      let g = inside S name in
      let lacks = λ (m : Meaning). is_empty (inside S name m) in
      let rx = rest_stop S (flat_map g xs) names in
      let ry = rest_stop S (flat_map g ys) names in
      let lx : rx ≤ most = let h = rest-bound names (flat_map g xs) in omega (arith, h) in
      let ly : ry ≤ most = let h = rest-bound names (flat_map g ys) in omega (arith, h) in
      ap (λ b. cond b (cond (list_any lacks (xs ++ ys)) most (rest_stop S (flat_map g (xs ++ ys)) names)) (most + 1)) (list_all-append (goes_on S) xs ys)
      ∙ both (list_all (goes_on S) xs) (list_all (goes_on S) ys) (most + 1) (cond (list_any lacks xs) most rx) (cond (list_any lacks ys) most ry) _
      (at_most (list_any lacks xs) (most + 1) most rx (omega arith) (omega (arith, lx))) (at_most (list_any lacks ys) (most + 1) most ry (omega arith) (omega (arith, ly)))
      (ap (λ b. cond b most (rest_stop S (flat_map g (xs ++ ys)) names)) (list_any-append lacks xs ys)
      ∙ either (list_any lacks xs) (list_any lacks ys) most rx ry _ lx ly
      (ap (λ l. rest_stop S l names) (flat_map-append g xs ys) ∙ rest-append names (flat_map g xs) (flat_map g ys)))

  pub types-append : (names : List Name) (xs ys : List ℕ) → types_stop S (xs ++ ys) names ≡ max (types_stop S xs names) (types_stop S ys names)
  types-append [] xs ys = refl
  types-append (name ∷ names) xs ys =
      let most = 2 * suc (length names) in
      let g = lead S name in
      let lacks = λ (k : ℕ). is_empty (lead S name k) in
      let rx = rest_stop S (flat_map g xs) names in
      let ry = rest_stop S (flat_map g ys) names in
      let lx : rx ≤ most = let h = rest-bound names (flat_map g xs) in omega (arith, h) in
      let ly : ry ≤ most = let h = rest-bound names (flat_map g ys) in omega (arith, h) in
      ap (λ b. cond b most (rest_stop S (flat_map g (xs ++ ys)) names)) (list_any-append lacks xs ys)
      ∙ either (list_any lacks xs) (list_any lacks ys) most rx ry _ lx ly
      (ap (λ l. rest_stop S l names) (flat_map-append g xs ys) ∙ rest-append names (flat_map g xs) (flat_map g ys))

  -- the order of meanings, and how often they stand there, doesn't matter
  rest-same : (names : List Name) (xs ys : List Meaning) → Same xs ys → rest_stop S xs names ≡ rest_stop S ys names
  rest-same [] xs ys same = ap (λ b. cond b 0 1) (all-both xs ys same (ends_path S))
  rest-same (name ∷ names) xs ys same =
      let most = 2 * suc (length names) in
      let g = inside S name in
      ap (λ a. cond a (cond (list_any (λ m. is_empty (g m)) xs) most (rest_stop S (flat_map g xs) names)) (most + 1)) (all-both xs ys same (goes_on S))
      ∙ ap (λ b. cond (list_all (goes_on S) ys) (cond b most (rest_stop S (flat_map g xs) names)) (most + 1)) (any-both xs ys same (λ m. is_empty (g m)))
      ∙ ap (λ r. cond (list_all (goes_on S) ys) (cond (list_any (λ m. is_empty (g m)) ys) most r) (most + 1))
      (rest-same names (flat_map g xs) (flat_map g ys) (flat-both xs ys same g))

  pub types-same : (names : List Name) (xs ys : List ℕ) → Same xs ys → types_stop S xs names ≡ types_stop S ys names
  types-same [] xs ys same = refl
  types-same (name ∷ names) xs ys same =
      let most = 2 * suc (length names) in
      let g = lead S name in
      ap (λ b. cond b most (rest_stop S (flat_map g xs) names)) (any-both xs ys same (λ k. is_empty (g k)))
      ∙ ap (λ r. cond (list_any (λ k. is_empty (g k)) ys) most r) (rest-same names (flat_map g xs) (flat_map g ys) (flat-both xs ys same g))

  -- where all go on, their inner types tell the stop, and the reason
  pub to-stops : (ms : List Meaning) (name : Name) (names : List Name) → list_all (goes_on S) ms ≡ true
      → rest_stop S ms (name ∷ names) ≡ types_stop S (inners (map (shape S) ms)) (name ∷ names)
  to-stops ms name names all =
      let most = 2 * suc (length names) in
      ap (λ a. cond a (cond (list_any (λ m. is_empty (inside S name m)) ms) most (rest_stop S (flat_map (inside S name) ms) names)) (most + 1)) all
      ∙ ap (λ b. cond b most (rest_stop S (flat_map (inside S name) ms) names)) (lacks-all S name ms all)
      ∙ ap (λ l. cond (list_any (λ k. is_empty (lead S name k)) (inners (map (shape S) ms))) most (rest_stop S l names)) (lead-all S name ms all)

  pub to-types : (ms : List Meaning) (name : Name) (names : List Name) → list_all (goes_on S) ms ≡ true
      → rest_reason S ms (name ∷ names) ≡ types_reason S (inners (map (shape S) ms)) (name ∷ names)
  to-types ms name names all =
      sym (rest-reason (name ∷ names) ms) ∙ ap stop_reason (to-stops ms name names all) ∙ types-reason (name ∷ names) (inners (map (shape S) ms))

  -- The reason that names give is that of where they stop in the same types.
  pub same-reason : (names : List Name) (xs ys : List ℕ) (stop : ℕ) → Same xs ys → types_stop S xs names ≡ stop → stop_reason stop ≡ types_reason S ys names
  same-reason names xs ys stop same is = ap stop_reason (sym is ∙ types-same names xs ys same) ∙ types-reason names ys

  -- a name in types, by their tables
  module _ (tables : List Table) (insides : AreInsides S tables) (name : Name) (ks : List ℕ) where
    found : List Meaning
    found = flat_map (lead S name) ks

    pub type-lacks : (names : List Name) → is_lacking tables name ks ≡ true → types_stop S ks (name ∷ names) ≡ 2 * length (name ∷ names)
    type-lacks names some =
        ap (λ b. cond b (2 * suc (length names)) (rest_stop S (flat_map (lead S name) ks) names)) (sym (held-lacks S name tables insides ks) ∙ some)

    module _ (numbers inner : Bool) (within : List ℕ) (is : Means tables name ks numbers inner within) where
      has : (names : List Name) → types_stop S ks (name ∷ names) ≡ rest_stop S found names
      unfolding found
      has names = ap (λ b. cond b (2 * suc (length names)) (rest_stop S (flat_map (lead S name) ks) names)) (sym (held-lacks S name tables insides ks) ∙ is.found)

      shapes : shapes_in tables name ks ≡ map (shape S) found
      unfolding found
      shapes = held-leads S name tables insides ks

      go : inner ≡ list_all (goes_on S) found
      go = is.all_inner ∙ ap (list_all (λ s. is_some s.inner)) shapes ∙ go-on S found

      pub type-ends : types_stop S ks (name ∷ []) ≡ cond numbers 0 1
      type-ends = has [] ∙ sym (ap (λ b. cond b 0 1) (is.all_numbers ∙ ap (list_all (λ s. s.number)) shapes ∙ all-end S found))

      pub type-stops : (other : Name) (names : List Name) → inner ≡ false → types_stop S ks (name ∷ other ∷ names) ≡ 2 * length (other ∷ names) + 1
      type-stops other names none = has (other ∷ names)
          ∙ ap (λ a. cond a (cond (list_any (λ m. is_empty (inside S other m)) found) (2 * suc (length names)) (rest_stop S (flat_map (inside S other) found) names)) (2 * suc (length names) + 1)) (sym go ∙ none)

      pub type-goes : (other : Name) (names : List Name) → inner ≡ true → types_stop S ks (name ∷ other ∷ names) ≡ types_stop S within (other ∷ names)
      type-goes other names all = has (other ∷ names) ∙ to-stops found other names (sym go ∙ all)
          ∙ types-same (other ∷ names) (inners (map (shape S) found)) within
          (λ k. let same = is.same_types k in (
            λ h. same.1 (subst (λ l. Contains (inners l) k) (sym shapes) h),
            λ h. subst (λ l. Contains (inners l) k) shapes (same.0 h),
          ))

  -- What is known by the tables of a schema doesn't depend on which tables these are.
  module _ (tables others : List Table) (insides : AreInsides S tables) (besides : AreInsides S others) where
    lacks-same : (name : Name) (ks : List ℕ) → is_lacking others name ks ≡ is_lacking tables name ks
    lacks-same name ks = held-lacks S name others besides ks ∙ sym (held-lacks S name tables insides ks)

    shapes-same : (name : Name) (ks : List ℕ) → shapes_in tables name ks ≡ shapes_in others name ks
    shapes-same name ks = held-leads S name tables insides ks ∙ sym (held-leads S name others besides ks)

    pub known-same : (sets : Sets) → AreKnown tables sets → AreKnown others sets
    known-same sets all = λ known is. by known.set known.name known.answer (all known is)
      where
        by : (set : TypeSet) (name : Name) (answer : Option Inside) → IsInside tables sets set name answer → IsInside others sets set name answer
        by set name None some = lacks-same name (types_of sets set) ∙ some
        by set name (Some within) is =
            let ks = types_of sets set in
            let one = shapes-same name ks in
            record {
              found = lacks-same name ks ∙ is.found;
              all_numbers = is.all_numbers ∙ ap (list_all (λ s. s.number)) one;
              all_inner = is.all_inner ∙ ap (list_all (λ s. is_some s.inner)) one;
              same_types = λ k. subst (λ l. Contains (types_of sets within.set) k ↔ Contains (inners l) k) one (is.same_types k);
            }
