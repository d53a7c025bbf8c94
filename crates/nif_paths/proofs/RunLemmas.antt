-- What is kept under names and under runs of types, and the sets of runs.
use Rattle.std.proofs.Common.{◌≡◌, ℕ, zero, suc, ◌+◌, ◌-◌, ◌/◌, ◌%◌, ◌<◌, ◌≤◌, ◌↔◌, ◌⊎◌, List, [], ◌∷◌, ◌++◌, length, map, flat_map, take, drop, get_or, Contains, inl, inr, refl, sym, ap, subst, ◌∙◌, arith}
use Rattle.std.specs.List.{All}
use Rattle.std.proofs.lemmas.List.{drop-take, drop-drop, append-nil}
use Rattle.std.proofs.lemmas.List.Elements.{Contains-append_left, Contains-append_right, Contains-append_cases}
use Rattle.std.proofs.Math.Seq.{take-add}
use Rattle.nif_names.specs.Marks.{IsFound}
use Rattle.nif_names.specs.Tables.{Table, kinds}
use Rattle.nif_schema.specs.Declaration.{Name}
use Rattle.nif_schema.specs.Schema.{Schema}
use Rattle.nif_sets.specs.Sets.{Sets, IsSet, IsGrown, types_of, types_in}
use Rattle.nif_sets.specs.declared.sets.TypeSet.{TypeSet}
use Rattle.nif_sets.specs.declared.sets.TypeSet.TheVariants.{One, Joined}
use Rattle.nif_paths.specs.Marks.{types_stop, key_of_name, key_of_run, HasMarks, HasRuns, IsSame, IsSetOf}
use Rattle.nif_paths.specs.declared.lines.Line.{Line}
use Rattle.nif_paths.proofs.Lists.{drop-at}

-- a key tells its name
key-first : (a b : Name) → map (λ n. n + 1) a ++ 0 ∷ [] ≡ map (λ n. n + 1) b ++ 0 ∷ [] → a ≡ b
key-first [] [] e = refl
key-first [] (y ∷ b) e = let h : 0 ≡ y + 1 = cc in absurd (omega (arith, h))
key-first (x ∷ a) [] e = let h : x + 1 ≡ 0 = cc in absurd (omega (arith, h))
key-first (x ∷ a) (y ∷ b) e =
    let h : x + 1 ≡ y + 1 = cc in
    let one : x ≡ y = omega (arith, h) in
    let t : map (λ n. n + 1) a ++ 0 ∷ [] ≡ map (λ n. n + 1) b ++ 0 ∷ [] = cc in
    ap (λ n. n ∷ a) one ∙ ap (λ l. y ∷ l) (key-first a b t)

-- and its first bound
run-first : (from to other end : ℕ) → key_of_run from to ≡ key_of_run other end → from ≡ other
run-first from to other end e =
    let low : from % 65536 ≡ other % 65536 = cc in
    let high : from / 65536 ≡ other / 65536 = cc in
    omega (arith, low, high)

-- it is not both that of a name and that of a run
no-end : (xs : List ℕ) (n : ℕ) → [] ≡ xs ++ n ∷ [] → ⊥
no-end [] n e = absurd (cc)
no-end (x ∷ xs) n e = absurd (cc)

head-same : (x y : ℕ) (xs ys : List ℕ) → x ∷ xs ≡ y ∷ ys → x ≡ y
head-same x y xs ys e = cc

rest-same : (x y : ℕ) (xs ys : List ℕ) → x ∷ xs ≡ y ∷ ys → xs ≡ ys
rest-same x y xs ys e = cc

ends-apart : (name : Name) (xs : List ℕ) → map (λ n. n + 1) name ++ 0 ∷ [] ≡ xs ++ 1 ∷ [] → ⊥
ends-apart [] [] e = let h = head-same 0 1 [] [] e in absurd (omega (arith, h))
ends-apart [] (x ∷ xs) e = no-end xs 1 (rest-same 0 x [] (xs ++ 1 ∷ []) e)
ends-apart (b ∷ name) [] e = no-end (map (λ n. n + 1) name) 0 (sym (rest-same (b + 1) 1 (map (λ n. n + 1) name ++ 0 ∷ []) [] e))
ends-apart (b ∷ name) (x ∷ xs) e = ends-apart name xs (rest-same (b + 1) x (map (λ n. n + 1) name ++ 0 ∷ []) (xs ++ 1 ∷ []) e)

keys-apart : (name : Name) (from to : ℕ) → key_of_name name ≡ key_of_run from to → ⊥
keys-apart name from to e = ends-apart name (from % 65536 ∷ from / 65536 ∷ to % 65536 ∷ to / 65536 ∷ []) e

-- a run of a list in two parts, and a run of one member
pub run-parts : {X : Type 0} (xs : List X) (from middle to : ℕ) → from ≤ middle → middle ≤ to
    → drop from (take to xs) ≡ drop from (take middle xs) ++ drop middle (take to xs)
run-parts xs from middle to few many =
    let a = middle - from in
    let b = to - middle in
    let one : middle ≡ from + a = omega (arith, few) in
    let two : to ≡ middle + b = omega (arith, many) in
    let both : to ≡ from + (a + b) = omega (arith, few, many) in
    ap (λ n. drop from (take n xs)) both ∙ drop-take from (a + b) xs ∙ take-add a b (drop from xs)
    ∙ ap (λ l. l ++ take b (drop a (drop from xs))) (sym (ap (λ n. drop from (take n xs)) one ∙ drop-take from a xs))
    ∙ ap (λ l. drop from (take middle xs) ++ take b l) (drop-drop a from xs ∙ ap (λ n. drop n xs) (sym one))
    ∙ ap (λ l. drop from (take middle xs) ++ l) (sym (ap (λ n. drop middle (take n xs)) two ∙ drop-take middle b xs))

pub run-one : {X : Type 0} (xs : List X) (from to : ℕ) (d : X) → from < length xs → to ≡ from + 1 → drop from (take to xs) ≡ get_or xs from d ∷ []
run-one xs from to d lt e = ap (λ n. drop from (take n xs)) e ∙ drop-take from 1 xs ∙ ap (take 1) (drop-at xs from d lt)

pub all-two : {X : Type 0} (P : X → Type 0) (a b : X) → P a → P b → All P (a ∷ b ∷ [])
all-two P a b p q zero d lt = p
all-two P a b p q (suc zero) d lt = q
all-two P a b p q (suc (suc n)) d lt = absurd (omega (arith, lt))

-- sets of types
pub one-set : (sets : Sets) (number : ℕ) (types : List ℕ) → types ≡ number ∷ [] → IsSetOf sets (One number) types
unfolding types_in
one-set sets number types is = record { within = tt; same = λ k. ((λ h. subst (λ l. Contains l k) (sym is) h), (λ h. subst (λ l. Contains l k) is h)) }

pub grown-set : (old new : Sets) (set : TypeSet) (types : List ℕ) → IsGrown old new → IsSetOf old set types → IsSetOf new set types
grown-set old new set types grown is =
    let r = grown set is.within in
    record { within = r.0; same = λ k. subst (λ l. Contains l k ↔ Contains types k) (sym r.1) (is.same k) }

pub joined-set : (old new : Sets) (left right set : TypeSet) (a b types : List ℕ) → IsSetOf old left a → IsSetOf old right b → types ≡ a ++ b → IsSet new set
    → ((k : ℕ) → Contains (types_of new set) k ↔ Contains (flat_map (types_of old) (left ∷ right ∷ [])) k) → IsSetOf new set types
joined-set old new left right set a b types one two is within same = record {
  within = within;
  same = λ k. (
    λ h. elim (Contains-append_cases (types_of old left) (types_of old right) k (subst (λ l. Contains l k) parts ((same k).0 h))) [
      | inl here ↦ subst (λ l. Contains l k) (sym is) (Contains-append_left a b k ((one.same k).0 here))
      | inr there ↦ subst (λ l. Contains l k) (sym is) (Contains-append_right a b k ((two.same k).0 there))
    ],
    λ h. (same k).1 (subst (λ l. Contains l k) (sym parts) (elim (Contains-append_cases a b k (subst (λ l. Contains l k) is h)) [
      | inl here ↦ Contains-append_left (types_of old left) (types_of old right) k ((one.same k).1 here)
      | inr there ↦ Contains-append_right (types_of old left) (types_of old right) k ((two.same k).1 there)
    ])),
  );
}
  where
    parts : flat_map (types_of old) (left ∷ right ∷ []) ≡ types_of old left ++ types_of old right
    parts = ap (λ l. types_of old left ++ l) (append-nil (types_of old right))

-- what is kept where no more is found
module _ (old new : Table) (fewer : (other key types : List ℕ) (stop : ℕ) → IsFound (kinds new other) key types stop → IsFound (kinds old other) key types stop) where
  pub marks-fewer : (S : Schema) → HasMarks S old → HasMarks S new
  marks-fewer S marks = λ first name types stop is. marks first name types stop (fewer first (key_of_name name) types stop is)

  pub runs-fewer : (sets : Sets) → HasRuns old sets → HasRuns new sets
  runs-fewer sets runs = λ first from to types number is. runs first from to types number (fewer first (key_of_run from to) types number is)

pub runs-grown : (names : Table) (old new : Sets) → IsGrown old new → HasRuns names old → HasRuns names new
runs-grown names old new grown runs = λ first from to types number is. grown-set old new (Joined number) (drop from types) grown (runs first from to types number is)

-- a mark of what was found of types under a name
module _ (old new : Table) (first : List ℕ) (name : Name) (types : List ℕ) (stop : ℕ)
    (says : (other under ts : List ℕ) (n : ℕ) → IsFound (kinds new other) under ts n
    → IsFound (kinds old other) under ts n ⊎ ((other ≡ first) × (under ≡ key_of_name name) × (ts ≡ types) × (n ≡ stop))) where
  pub marks-more : (S : Schema) → HasMarks S old → types_stop S types (name ∷ []) ≡ stop → HasMarks S new
  marks-more S marks is = λ other rest ts n found. elim (says other (key_of_name rest) ts n found) [
    | inl h ↦ marks other rest ts n h
    | inr h ↦ ap (λ l. types_stop S ts (l ∷ [])) (key-first rest name h.1) ∙ ap (λ l. types_stop S l (name ∷ [])) h.2 ∙ is ∙ sym h.3
  ]

  pub runs-before : (other : List ℕ) (from to : ℕ) (ts : List ℕ) (n : ℕ) → IsFound (kinds new other) (key_of_run from to) ts n → IsFound (kinds old other) (key_of_run from to) ts n
  runs-before other from to ts n found = elim (says other (key_of_run from to) ts n found) [
    | inl h ↦ h
    | inr h ↦ absurd (keys-apart name from to (sym h.1))
  ]

-- a mark of the set of a run
module _ (old new : Table) (first : List ℕ) (from to : ℕ) (set : TypeSet)
    (says : (other under ts : List ℕ) (n : ℕ) → IsFound (kinds new other) under ts n
    → IsFound (kinds old other) under ts n ⊎ ((other ≡ first) × (under ≡ key_of_run from to) × (ts ≡ take to (kinds old other).types) × (set ≡ Joined n))) where
  pub marks-beside : (S : Schema) → HasMarks S old → HasMarks S new
  marks-beside S marks = λ other name ts n found. elim (says other (key_of_name name) ts n found) [
    | inl h ↦ marks other name ts n h
    | inr h ↦ absurd (keys-apart name from to h.1)
  ]

  pub runs-more : (sets : Sets) → HasRuns old sets → IsSetOf sets set (drop from (take to (kinds old first).types)) → HasRuns new sets
  runs-more sets runs is = λ other start end ts n found. elim (says other (key_of_run start end) ts n found) [
    | inl h ↦ runs other start end ts n h
    | inr h ↦ subst (λ l. IsSetOf sets (Joined n) l)
        (ap (λ m. drop m (take to (kinds old first).types)) (sym (run-first start end from to h.1)) ∙ ap (drop start) (ap (λ o. take to (kinds old o).types) (sym h.0) ∙ sym h.2))
        (subst (λ s. IsSetOf sets s (drop from (take to (kinds old first).types))) h.3 is)
  ]

-- lines with the same fields
pub same-refl : (tables : List Table) (line : Line) → IsSame tables line line
same-refl tables line = record { shapes = λ name. refl; types = λ name. refl; marks = λ S h. h; runs = λ h. h; grown = λ set is. (is, refl); known = λ h. h }

pub same-trans : (tables : List Table) (a b c : Line) → IsSame tables a b → IsSame tables b c → IsSame tables a c
same-trans tables a b c one two = record {
  shapes = λ name. two.shapes name ∙ one.shapes name;
  types = λ name. two.types name ∙ one.types name;
  marks = λ S h. two.marks S (one.marks S h);
  runs = λ h. two.runs (one.runs h);
  grown = λ set is. let r = one.grown set is in let q = two.grown set r.0 in (q.0, q.1 ∙ r.1);
  known = λ h. two.known (one.known h);
}

pub sets-grown : (a b c : Sets) → IsGrown a b → IsGrown b c → IsGrown a c
sets-grown a b c one two = λ set is. let r = one set is in let q = two set r.0 in (q.0, q.1 ∙ r.1)
