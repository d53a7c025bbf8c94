-- The numbers of declarations by their names.
use Rattle.std.proofs.Common.{◌≡◌, ℕ, ◌+◌, ◌-◌, ◌<◌, ◌≤◌, ◌^◌, Bool, true, false, cond, not, ◌||◌, ltb, List, [], ◌∷◌, ◌++◌, length, map, eqb, Option, Some, None, is_some, IfSome, position, bytes_eq, Vec, Global, refl, sym, ap, subst, ◌∙◌, arith}
use Rattle.std.specs.List.{position_or_len, prefix_len, IsDistinct, list_any}
use Rattle.std.specs.Map.{lookup, KeepsOthers}
use Rattle.std.specs.Ordering.{is_eq, nat_cmp, eq_by_cmp}
use Rattle.std.specs.Cmp.Lexicographic.{slice_cmp}
use Rattle.std.specs.BTreeMap.{BTreeMap, get_by, UpdatesBy}
use Rattle.std.proofs.lemmas.List.{map-append, length-map, length-append}
use Rattle.std.proofs.lemmas.List.Elements.{All-push}
use Rattle.std.proofs.lemmas.List.Folds.{position_or_len_push}
use Rattle.std.proofs.lemmas.List.Sums.{prefix_len-le-length}
use Rattle.std.proofs.lemmas.Map.Keys.{IsDistinct-push}
use Rattle.std.proofs.lemmas.Map.Text.{is_eq-slice_cmp}
use Rattle.std.proofs.lemmas.Slice.Eq.{bytes_eq-Decides}
use Rattle.std.proofs.lemmas.Bool.{ltb-true, ltb-false}
use Rattle.std.proofs.lemmas.Bool.Decides.{nat_tests}
use Rattle.std.proofs.lemmas.Cmp.{nat_list_eq_equiv}
use Rattle.nif_schema.specs.Declaration.{Name, Declaration, declaration}
use Rattle.nif_schema.specs.Basic.{HasItsLeaf}
use Rattle.nif_schema.specs.Schema.{Schema, IsSchema, find}
use Rattle.nif_schema.specs.Kept.{declarations, AreNumbered}
use Rattle.nif_schema.specs.declared.decls.Decl.{Decl}

-- ---- where a name is found

found_at : {X : Type 0} (p : X → Bool) (xs : List X) → IfSome (position p xs) (λ n. n < length xs)
found_at p xs = by (ltb (position_or_len p xs) (length xs)) refl
  where
    by : (b : Bool) → ltb (position_or_len p xs) (length xs) ≡ b → IfSome (cond b (Some (position_or_len p xs)) None) (λ n. n < length xs)
    by true e = ltb-true (position_or_len p xs) (length xs) e
    by false e = tt

-- the number of a declaration is below their count
pub find-within : (schema : Schema) (name : Name) → IfSome (find schema name) (λ number. number < length schema)
find-within schema name = found_at (λ d. bytes_eq name d.name) schema

-- the place, if it is below the length
place_in : ℕ → ℕ → Option ℕ
place_in n most = cond (ltb n most) (Some n) None

-- one more is found last, where none before it is
place-push : (n len : ℕ) (b : Bool) → n ≤ len → place_in (cond (eqb n len) (len + cond b 0 1) n) (len + 1) ≡ cond (ltb n len) (Some n) (cond b (Some len) None)
unfolding place_in
place-push n len true le = grind (arith, nat_tests)
place-push n len false le = grind (arith, nat_tests)

position-push : {X : Type 0} (p : X → Bool) (xs : List X) (x : X)
    → position p (xs ++ x ∷ []) ≡ cond (ltb (position_or_len p xs) (length xs)) (Some (position_or_len p xs)) (cond (p x) (Some (length xs)) None)
unfolding place_in
position-push p xs x =
    ap (λ n. place_in n (length (xs ++ x ∷ []))) (position_or_len_push p xs x)
    ∙ ap (place_in (cond (eqb (position_or_len p xs) (length xs)) (length xs + cond (p x) 0 1) (position_or_len p xs))) (length-append xs (x ∷ []))
    ∙ place-push (position_or_len p xs) (length xs) (p x) (prefix_len-le-length (λ y. not (p y)) xs)

-- a name is found last where it is that of the last declaration, which is new
pub find-push : (schema : Schema) (last : Declaration) (name : Name) → find schema last.name ≡ None
    → find (schema ++ last ∷ []) name ≡ cond (bytes_eq name last.name) (Some (length schema)) (find schema name)
find-push schema last name new =
    position-push (λ d. bytes_eq name d.name) schema last
    ∙ by (bytes_eq name last.name) refl (ltb (position_or_len (λ d. bytes_eq name d.name) schema) (length schema)) refl
  where
    n : ℕ
    n = position_or_len (λ d. bytes_eq name d.name) schema

    by : (b : Bool) → bytes_eq name last.name ≡ b → (t : Bool) → ltb (position_or_len (λ d. bytes_eq name d.name) schema) (length schema) ≡ t
        → cond t (Some (position_or_len (λ d. bytes_eq name d.name) schema)) (cond b (Some (length schema)) None) ≡ cond b (Some (length schema)) (cond t (Some (position_or_len (λ d. bytes_eq name d.name) schema)) None)
    by false e true f = refl
    by false e false f = refl
    by true e false f = refl
    by true e true f =
        let same : name ≡ last.name = grind (arith, bytes_eq-Decides) in
        let here : find schema name ≡ Some (position_or_len (λ d. bytes_eq name d.name) schema) = ap (λ t. cond t (Some (position_or_len (λ d. bytes_eq name d.name) schema)) None) f in
        let none : find schema name ≡ None = ap (find schema) same ∙ new in
        absurd (cc)

-- ---- a new declaration

-- an option that is none
pub none_from_is_some : {A : Type 0} (o : Option A) → is_some o ≡ false → o ≡ None
none_from_is_some None e = refl
none_from_is_some (Some x) e = absurd (cc)

same_of : (one other : List ℕ) → bytes_eq one other ≡ true → one ≡ other
same_of one other e = grind (arith, bytes_eq-Decides)

any_none : {X : Type 0} (p : X → Bool) (xs : List X) → length xs ≤ prefix_len (λ x. not (p x)) xs → list_any p xs ≡ false
any_none p [] le = refl
any_none p (x ∷ xs) le = by (p x) refl (any_none p xs)
  where
    by : (b : Bool) → p x ≡ b → (length xs ≤ prefix_len (λ y. not (p y)) xs → list_any p xs ≡ false) → list_any p (x ∷ xs) ≡ false
    by true e rest = let none : prefix_len (λ y. not (p y)) (x ∷ xs) ≡ 0 = ap (λ b. cond (not b) (1 + prefix_len (λ y. not (p y)) xs) 0) e in absurd (omega arith)
    by false e rest =
        let more : prefix_len (λ y. not (p y)) (x ∷ xs) ≡ 1 + prefix_len (λ y. not (p y)) xs = ap (λ b. cond (not b) (1 + prefix_len (λ y. not (p y)) xs) 0) e in
        ap (λ b. b || list_any p xs) e ∙ rest (omega arith)

list_any-map : {X Y : Type 0} (p : Y → Bool) (f : X → Y) (xs : List X) → list_any p (map f xs) ≡ list_any (λ x. p (f x)) xs
list_any-map p f [] = refl
list_any-map p f (x ∷ xs) = ap (λ b. p (f x) || b) (list_any-map p f xs)

list_any-none : {X : Type 0} (p : X → Bool) (xs : List X) → position p xs ≡ None → list_any p xs ≡ false
list_any-none p xs e = by (ltb (position_or_len p xs) (length xs)) refl
  where
    by : (b : Bool) → ltb (position_or_len p xs) (length xs) ≡ b → list_any p xs ≡ false
    by true t = let some : position p xs ≡ Some (position_or_len p xs) = ap (λ b. cond b (Some (position_or_len p xs)) None) t in absurd (cc)
    by false t = any_none p xs (ltb-false (position_or_len p xs) (length xs) t)

-- the test of a name holds of the keys of its bytes
one_key : (name : List ℕ) (x y : Vec ℕ Global) → is_eq (slice_cmp nat_cmp name x.items) ≡ true
    → is_eq (slice_cmp nat_cmp name y.items) ≡ is_eq (slice_cmp nat_cmp x.items y.items)
one_key name x y e = ap (λ bytes. is_eq (slice_cmp nat_cmp bytes y.items)) (same_of name x.items (sym (is_eq-slice_cmp name x.items) ∙ e))

-- the tests of two names hold of no key together
apart : (key : Vec ℕ Global) (name : List ℕ) → bytes_eq name key.items ≡ false → (other : Vec ℕ Global)
    → is_eq (slice_cmp nat_cmp key.items other.items) ≡ true → is_eq (slice_cmp nat_cmp name other.items) ≡ false
apart key name e other is =
    let same : key.items ≡ other.items = same_of key.items other.items (sym (is_eq-slice_cmp key.items other.items) ∙ is) in
    is_eq-slice_cmp name other.items ∙ ap (bytes_eq name) (sym same) ∙ e

-- After a name was put to a number, each name has the number that it had, and that name the new one.
lookup-put : (old new : BTreeMap (Vec ℕ Global) ℕ) (key : Vec ℕ Global) (number : ℕ) (name : Name)
    → UpdatesBy (λ x y. slice_cmp nat_cmp x.items y.items) (λ y. slice_cmp nat_cmp key.items y.items) old new (Some number)
    → get_by (λ y. slice_cmp nat_cmp name y.items) new ≡ cond (bytes_eq name key.items) (Some number) (get_by (λ y. slice_cmp nat_cmp name y.items) old)
unfolding KeepsOthers
lookup-put old new key number name updates = by (bytes_eq name key.items) refl
  where
    by : (b : Bool) → bytes_eq name key.items ≡ b
        → get_by (λ y. slice_cmp nat_cmp name y.items) new ≡ cond b (Some number) (get_by (λ y. slice_cmp nat_cmp name y.items) old)
    by true e =
        let same : name ≡ key.items = same_of name key.items e in
        ap (λ bytes. get_by (λ (y : Vec ℕ Global). slice_cmp nat_cmp bytes y.items) new) same ∙ updates.1
    by false e = updates.3 (λ y. is_eq (slice_cmp nat_cmp name y.items)) (one_key name) (apart key name e)

pub AreNumbered-none : (decls : List Decl) (numbers : BTreeMap (Vec ℕ Global) ℕ) → decls ≡ [] → numbers.entries ≡ [] → AreNumbered decls numbers
unfolding IsDistinct
AreNumbered-none decls numbers none empty = record {
  schema = subst (λ ds. IsSchema (declarations ds)) (sym none) (record { names = tt; leaves = λ k d lt. absurd (omega arith); limit = omega arith });
  found = λ name. ap (lookup (λ (y : Vec ℕ Global). is_eq (slice_cmp nat_cmp name y.items))) empty ∙ ap (λ ds. find (declarations ds) name) (sym none);
}

pub AreNumbered-push : (decls : List Decl) (last : Decl) (old new : BTreeMap (Vec ℕ Global) ℕ) (key : Vec ℕ Global)
    → AreNumbered decls old → key.items ≡ last.name → find (declarations decls) last.name ≡ None
    → UpdatesBy (λ x y. slice_cmp nat_cmp x.items y.items) (λ y. slice_cmp nat_cmp key.items y.items) old new (Some (length decls))
    → HasItsLeaf (declaration last) → length (declarations decls) < 2 ^ 32 - 1 → AreNumbered (decls ++ last ∷ []) new
AreNumbered-push decls last old new key numbered same none updates leaf room =
    let all = declarations decls in
    let more : declarations (decls ++ last ∷ []) ≡ all ++ declaration last ∷ [] = map-append declaration decls (last ∷ []) in
    record {
      schema = subst IsSchema (sym more) (record {
        names =
            subst (IsDistinct bytes_eq) (sym (map-append (λ x. x.name) all (declaration last ∷ [])))
            (IsDistinct-push nat_list_eq_equiv (map (λ x. x.name) all) last.name numbered.schema.names
            (list_any-map (bytes_eq last.name) (λ x. x.name) all ∙ list_any-none (λ x. bytes_eq last.name x.name) all none));
        leaves = All-push HasItsLeaf all (declaration last) numbered.schema.leaves leaf;
        limit = omega (arith, length-append all (declaration last ∷ []));
      });
      found = λ name.
          lookup-put old new key (length decls) name updates
          ∙ ap (λ bytes. cond (bytes_eq name bytes) (Some (length decls)) (get_by (λ (y : Vec ℕ Global). slice_cmp nat_cmp name y.items) old)) same
          ∙ ap (cond (bytes_eq name last.name) (Some (length decls))) (numbered.found name)
          ∙ ap (λ n. cond (bytes_eq name last.name) (Some n) (find all name)) (sym (length-map decls declaration))
          ∙ sym (find-push all (declaration last) name none)
          ∙ ap (λ s. find s name) (sym more);
    }
