-- Each expression of the line of an open type has a value.
use Rattle.std.proofs.Common.{◌≡◌, ℕ, zero, suc, ◌<◌, ◌⊎◌, inl, inr, Bool, true, false, ◌&&◌, ◌||◌, if◌then◌else◌, is_some, is_none, IsSome, Option, Some, None, List, [], ◌∷◌, ◌++◌, length, map, slice_get, slice_index_or, bytes_eq, option_and_then, refl, sym, ◌∙◌, ap, subst, true≢false, arith, append_assoc, append-nil}
use Rattle.std.specs.Prelude.{Contains, filter, codes}
use Rattle.std.specs.Option.{option_map_or}
use Rattle.std.specs.List.{list_any, list_all}
use Rattle.nif_schema.specs.Declaration.{Name, Formula, Read, Bad, Field, Declaration}
use Rattle.nif_schema.specs.Expression.{Tree, Number, Arg, Path, Not, Two}
use Rattle.nif_schema.specs.Schema.{Schema, parent, ancestor, fields_of, line, line_within}
use Rattle.nif_schema.specs.Uses.{is_struct, Here}
use Rattle.nif_schema.specs.Paths.{paths_of, has_numbers, is_number, is_number_array, is_header_path, rest_reason, path_reason, OfField}
use Rattle.nif_schema.specs.Reasons.{first_reason, reason_where, kind_reason, template_reason, is_bad_bound, is_no_block, is_bad_exact, formula_reason, width_reason, width_where, bare_width_reason, field_reason, fields_reason, line_above, has_no_root}
use Rattle.nif_schema.specs.declared.faults.Closed.{Closed}
use Rattle.nif_schema.specs.declared.faults.Closed.TheVariants as closed
use Rattle.nif_layout.specs.Context.{Context}
use Rattle.nif_layout.specs.Earlier.{Env, is_named, has_name, last_present}
use Rattle.nif_layout.specs.PathValue.{header_value, path_value, follow, found}
use Rattle.nif_layout.specs.Laws.{IsOpenType}
use Rattle.nif_layout.specs.Defined.{fields_before, EachPlaced, HasValue, HasValues, NamesNumbers, IsDefined, AllDefined}
use Rattle.nif_layout.specs.Form.{is_array, array_name}
use Rattle.nif_layout.specs.OpenTypeLaws.{or_left, or_right, or_cases, and_both, not_false, no_reason, no_first, no_reason_at, open_used, declared, own_facts, parent_within}
use Rattle.nif_layout.specs.OpenKindLaws.{uses_parent}

-- ---- one path

or_false : (a b : Bool) → (a || b) ≡ false → (a ≡ false) × (b ≡ false)
or_false true b e = absurd (true≢false e)
or_false false b e = (refl, e)

filter_append : (p : Field → Bool) (xs : List Field) (f : Field) → filter p xs ≡ [] → p f ≡ false → filter p (xs ++ f ∷ []) ≡ []
filter_append p [] f e h = let P : Bool → Type 0 = λ b. (if b then f ∷ [] else []) ≡ [] in subst P (sym h) refl
filter_append p (x ∷ xs) f e h = by (p x) e (λ q. filter_append p xs f q h)
  where
    by : (b : Bool) → (if b then x ∷ filter p xs else filter p xs) ≡ [] → (filter p xs ≡ [] → filter p (xs ++ f ∷ []) ≡ []) → (if b then x ∷ filter p (xs ++ f ∷ []) else filter p (xs ++ f ∷ [])) ≡ []
    by true q ih = absurd (cc)
    by false q ih = ih q

-- no earlier field has a name that none has
none_named : (name : Name) (E : Env) → has_name name E ≡ false → filter (λ (f : Field). bytes_eq name f.name) (fields_before E) ≡ []
none_named name [] e = refl
none_named name (earlier ∷ before) e =
    let o = or_false (is_named name earlier) (has_name name before) e in
    filter_append (λ (f : Field). bytes_eq name f.name) (fields_before before) earlier.field (none_named name before o.1) o.0

some_if : (b : Bool) (x : ℕ) (other : Option ℕ) → b ≡ true → IsSome (if b then Some x else other)
some_if b x other e = let P : Bool → Type 0 = λ b. IsSome (if b then Some x else other) in subst P (sym e) refl

header_some : (C : Context) (path : List Name) → is_header_path path ≡ true → IsSome (header_value C path)
unfolding is_header_path
header_some C [] e = absurd (true≢false (sym e))
header_some C (name ∷ []) e = by (bytes_eq name (codes "Version")) (bytes_eq name (codes "User Version")) (bytes_eq name (codes "User Version 2")) e
  where
    by : (a b c : Bool) → (a || (b || c)) ≡ true → IsSome (if a then Some C.version else if b then Some C.user else if c then Some C.bs else None)
    by true b c e = refl
    by false true c e = refl
    by false false true e = refl
    by false false false e = absurd (true≢false (sym e))
header_some C (name ∷ next ∷ []) e = some_if (bytes_eq name (codes "BS Header") && bytes_eq next (codes "BS Version")) C.bs None e
header_some C (name ∷ next ∷ third ∷ more) e = absurd (true≢false (sym e))

-- a path has a value where an earlier field has its first name
named_some : (S : Schema) (C : Context) (E : Env) (name : Name) (names : List Name) → has_name name E ≡ true → IsSome (path_value S C E (name ∷ names))
named_some S C E name names e = some_if (has_name name E) (follow S (found (last_present name E)) names) (header_value C (name ∷ names)) e

path_some : (S : Schema) (C : Context) (E : Env) (path : List Name) → path_reason S (fields_before E) path ≡ None → IsSome (path_value S C E path)
path_some S C E [] e = absurd (cc)
path_some S C E (name ∷ names) e = by (has_name name E) refl
  where
    header : (ms : List Field) → ms ≡ [] → elim (map (λ (f : Field). OfField f) ms) as (λ x. Option Closed) [ [] ↦ if is_header_path (name ∷ names) then None else Some closed.C5 | m ∷ ms ↦ rest_reason S (m ∷ ms) names ] ≡ None
        → is_header_path (name ∷ names) ≡ true
    header [] q h = passed (is_header_path (name ∷ names)) h
      where
        passed : (b : Bool) → (if b then None else Some closed.C5) ≡ None → b ≡ true
        passed true h = refl
        passed false h = absurd (cc)
    header (f ∷ ms) q h = absurd (cc)

    by : (b : Bool) → has_name name E ≡ b → IsSome (path_value S C E (name ∷ names))
    by true h = named_some S C E name names h
    by false h =
        let P : Bool → Type 0 = λ b. IsSome (if b then Some (follow S (found (last_present name E)) names) else header_value C (name ∷ names)) in
        subst P (sym h) (header_some C (name ∷ names) (header (filter (λ (f : Field). bytes_eq name f.name) (fields_before E)) (none_named name E h) e))

-- ---- one expression

contained_cases : {X : Type 0} (y : X) (xs : List X) (x : X) → Contains (y ∷ xs) x → (y ≡ x) ⊎ Contains xs x
contained_cases y xs x c = by c.0 c.1 c.2
  where
    by : (k : ℕ) → k < length (y ∷ xs) → slice_index_or (y ∷ xs) k x ≡ x → (y ≡ x) ⊎ Contains xs x
    by zero l e = inl e
    by (suc k) l e = inr (k, omega arith, e)

-- where no path of a list has a reason, none of them has one
no_path_reason : (S : Schema) (earlier : List Field) (paths : List (List Name)) → first_reason (map (path_reason S earlier) paths) ≡ None
    → (path : List Name) → Contains paths path → path_reason S earlier path ≡ None
no_path_reason S earlier [] e path c = let l : c.0 < 0 = c.1 in absurd (omega arith)
no_path_reason S earlier (first ∷ paths) e path c = by (contained_cases first paths path c) (λ d. no_path_reason S earlier paths r.1 path d)
  where
    r : (path_reason S earlier first ≡ None) × (first_reason (map (path_reason S earlier) paths) ≡ None)
    r = no_first (path_reason S earlier first) (map (path_reason S earlier) paths) e

    by : (first ≡ path) ⊎ Contains paths path → (Contains paths path → path_reason S earlier path ≡ None) → path_reason S earlier path ≡ None
    by (inl same) ih = subst (λ (p : List Name). path_reason S earlier p ≡ None) same r.0
    by (inr d) ih = ih d

read_value : (S : Schema) (earlier : List Field) (of : Tree) → formula_reason S earlier (Some (Read of)) ≡ None → HasValue S earlier (Read of)
read_value S earlier of e = (
  of,
  refl,
  λ C E same path c.
      let none : path_reason S earlier path ≡ None = no_path_reason S earlier (paths_of of) e path c in
      let none' : path_reason S (fields_before E) path ≡ None = subst (λ (fields : List Field). path_reason S fields path ≡ None) (sym same) none in
      path_some S C E path none',
)

formula_has : (S : Schema) (earlier : List Field) (formula : Formula) → formula_reason S earlier (Some formula) ≡ None → HasValue S earlier formula
formula_has S earlier Bad e = absurd (cc)
formula_has S earlier (Read of) e = read_value S earlier of e

-- an earlier field of a name is one in an environment
append_any : (p : Field → Bool) (xs : List Field) (f : Field) → (list_any p xs ≡ true) ⊎ (p f ≡ true) → list_any p (xs ++ f ∷ []) ≡ true
append_any p [] f (inl e) = absurd (true≢false (sym e))
append_any p [] f (inr e) = or_left (p f) false e
append_any p (x ∷ xs) f (inl e) = by (or_cases (p x) (list_any p xs) e) (λ q. append_any p xs f (inl q))
  where
    by : (p x ≡ true) ⊎ (list_any p xs ≡ true) → (list_any p xs ≡ true → list_any p (xs ++ f ∷ []) ≡ true) → (p x || list_any p (xs ++ f ∷ [])) ≡ true
    by (inl h) ih = or_left (p x) (list_any p (xs ++ f ∷ [])) h
    by (inr h) ih = or_right (p x) (list_any p (xs ++ f ∷ [])) (ih h)
append_any p (x ∷ xs) f (inr e) = or_right (p x) (list_any p (xs ++ f ∷ [])) (append_any p xs f (inr e))

both_and : (a b : Bool) → a ≡ true → b ≡ true → (a && b) ≡ true
both_and true b e h = h
both_and false b e h = absurd (true≢false (sym e))

any_append : (p : Field → Bool) (xs : List Field) (f : Field) → list_any p (xs ++ f ∷ []) ≡ true → (list_any p xs ≡ true) ⊎ (p f ≡ true)
any_append p [] f e = by (p f) e
  where
    by : (b : Bool) → (b || false) ≡ true → (false ≡ true) ⊎ (b ≡ true)
    by true e = inr refl
    by false e = inl e
any_append p (x ∷ xs) f e = by (p x) e (λ q. any_append p xs f q)
  where
    by : (b : Bool) → (b || list_any p (xs ++ f ∷ [])) ≡ true → (list_any p (xs ++ f ∷ []) ≡ true → (list_any p xs ≡ true) ⊎ (p f ≡ true)) → ((b || list_any p xs) ≡ true) ⊎ (p f ≡ true)
    by true q ih = inl refl
    by false q ih = ih q

or_true : (a b : Bool) → (b ≡ true) ⊎ (a ≡ true) → (a || b) ≡ true
or_true true b h = refl
or_true false b (inl e) = e
or_true false b (inr e) = absurd (true≢false (sym e))

has_earlier : (name : Name) (E : Env) → list_any (λ (f : Field). bytes_eq name f.name) (fields_before E) ≡ true → has_name name E ≡ true
has_earlier name [] e = e
has_earlier name (earlier ∷ before) e = by (any_append (λ (f : Field). bytes_eq name f.name) (fields_before before) earlier.field e) (has_earlier name before)
  where
    by : (list_any (λ (f : Field). bytes_eq name f.name) (fields_before before) ≡ true) ⊎ (bytes_eq name earlier.field.name ≡ true)
        → (list_any (λ (f : Field). bytes_eq name f.name) (fields_before before) ≡ true → has_name name before ≡ true) → has_name name (earlier ∷ before) ≡ true
    by (inl e) ih = or_true (is_named name earlier) (has_name name before) (inl (ih e))
    by (inr e) ih = or_true (is_named name earlier) (has_name name before) (inr e)

-- a bare name as a width
bare_has : (S : Schema) (earlier : List Field) (name : Name) → width_reason S earlier (Some (Read (Path (name ∷ [])))) ≡ None → HasValue S earlier (Read (Path (name ∷ [])))
bare_has S earlier name e = by (list_any (λ (f : Field). bytes_eq name f.name) earlier) refl e
  where
    by : (b : Bool) → list_any (λ (f : Field). bytes_eq name f.name) earlier ≡ b
        → (if b then bare_width_reason S (filter (λ (f : Field). bytes_eq name f.name) earlier) else formula_reason S earlier (Some (Read (Path (name ∷ []))))) ≡ None
        → HasValue S earlier (Read (Path (name ∷ [])))
    by true a h = (
      Path (name ∷ []),
      refl,
      λ C E same path c.
          let any : list_any (λ (f : Field). bytes_eq name f.name) (fields_before E) ≡ true = subst (λ (fields : List Field). list_any (λ (f : Field). bytes_eq name f.name) fields ≡ true) (sym same) a in
          bare C E path (contained_cases (name ∷ []) [] path c) any,
    )
      where
        bare : (C : Context) (E : Env) (path : List Name) → ((name ∷ []) ≡ path) ⊎ Contains [] path → list_any (λ (f : Field). bytes_eq name f.name) (fields_before E) ≡ true → IsSome (path_value S C E path)
        bare C E path (inl same) any = subst (λ (p : List Name). IsSome (path_value S C E p)) same (named_some S C E name [] (has_earlier name E any))
        bare C E path (inr c) any = let l : c.0 < 0 = c.1 in absurd (omega arith)
    by false a h = formula_has S earlier (Read (Path (name ∷ []))) h

width_has : (S : Schema) (earlier : List Field) (formula : Formula) → width_reason S earlier (Some formula) ≡ None → HasValue S earlier formula
width_has S earlier Bad e = absurd (cc)
width_has S earlier (Read (Number n)) e = formula_has S earlier (Read (Number n)) e
width_has S earlier (Read Arg) e = formula_has S earlier (Read Arg) e
width_has S earlier (Read (Path [])) e = formula_has S earlier (Read (Path [])) e
width_has S earlier (Read (Path (name ∷ []))) e = bare_has S earlier name e
width_has S earlier (Read (Path (name ∷ next ∷ more))) e = formula_has S earlier (Read (Path (name ∷ next ∷ more))) e
width_has S earlier (Read (Not of)) e = formula_has S earlier (Read (Not of)) e
width_has S earlier (Read (Two op left right)) e = formula_has S earlier (Read (Two op left right)) e

-- ---- a width that names an array

all_append : (p q : Field → Bool) (xs : List Field) (f : Field) → list_all p (filter q (xs ++ f ∷ [])) ≡ true
    → (list_all p (filter q xs) ≡ true) × (q f ≡ true → p f ≡ true)
all_append p q [] f e = (refl, λ h. by (q f) h e)
  where
    by : (b : Bool) → b ≡ true → list_all p (if b then f ∷ [] else []) ≡ true → p f ≡ true
    by true h e = (and_both (p f) true e).0
    by false h e = absurd (true≢false (sym h))
all_append p q (x ∷ xs) f e = by (q x) e (λ h. all_append p q xs f h)
  where
    by : (b : Bool) → list_all p (if b then x ∷ filter q (xs ++ f ∷ []) else filter q (xs ++ f ∷ [])) ≡ true
        → (list_all p (filter q (xs ++ f ∷ [])) ≡ true → (list_all p (filter q xs) ≡ true) × (q f ≡ true → p f ≡ true))
        → (list_all p (if b then x ∷ filter q xs else filter q xs) ≡ true) × (q f ≡ true → p f ≡ true)
    by true h ih =
        let r = and_both (p x) (list_all p (filter q (xs ++ f ∷ []))) h in
        let s = ih r.1 in
        (both_and (p x) (list_all p (filter q xs)) r.0 s.0, s.1)
    by false h ih = ih h

some_none : {A : Type 0} (o : Option A) → is_some o ≡ true → is_none o ≡ true → ⊥
some_none None a b = absurd (true≢false (sym a))
some_none (Some x) a b = absurd (true≢false (sym b))

-- a name of an array is not one of numbers alone
no_numbers : (S : Schema) (name : Name) (E : Env) → is_array name E ≡ true → list_all (is_number S) (filter (λ (f : Field). bytes_eq name f.name) (fields_before E)) ≡ true → ⊥
no_numbers S name [] a e = absurd (true≢false (sym a))
no_numbers S name (earlier ∷ before) a e = by (is_named name earlier) refl a (no_numbers S name before)
  where
    r : (list_all (is_number S) (filter (λ (f : Field). bytes_eq name f.name) (fields_before before)) ≡ true) × (bytes_eq name earlier.field.name ≡ true → is_number S earlier.field ≡ true)
    r = all_append (is_number S) (λ (f : Field). bytes_eq name f.name) (fields_before before) earlier.field e

    by : (b : Bool) → is_named name earlier ≡ b → (if b then is_some earlier.field.length else is_array name before) ≡ true
        → (is_array name before ≡ true → list_all (is_number S) (filter (λ (f : Field). bytes_eq name f.name) (fields_before before)) ≡ true → ⊥) → ⊥
    by true eb h ih = some_none earlier.field.length h (and_both (is_none earlier.field.length) (has_numbers S earlier.field) (r.1 eb)).0
    by false eb h ih = ih h r.0

array_named : (name : Name) (E : Env) → is_array name E ≡ true → list_any (λ (f : Field). bytes_eq name f.name) (fields_before E) ≡ true
array_named name [] a = absurd (true≢false (sym a))
array_named name (earlier ∷ before) a = by (is_named name earlier) refl a (array_named name before)
  where
    by : (b : Bool) → is_named name earlier ≡ b → (if b then is_some earlier.field.length else is_array name before) ≡ true
        → (is_array name before ≡ true → list_any (λ (f : Field). bytes_eq name f.name) (fields_before before) ≡ true)
        → list_any (λ (f : Field). bytes_eq name f.name) (fields_before before ++ earlier.field ∷ []) ≡ true
    by true eb h ih = append_any (λ (f : Field). bytes_eq name f.name) (fields_before before) earlier.field (inr eb)
    by false eb h ih = append_any (λ (f : Field). bytes_eq name f.name) (fields_before before) earlier.field (inl (ih h))

bare_array : (S : Schema) (E : Env) (name : Name) → width_reason S (fields_before E) (Some (Read (Path (name ∷ [])))) ≡ None → is_array name E ≡ true
    → list_all (is_number_array S) (filter (λ (f : Field). bytes_eq name f.name) (fields_before E)) ≡ true
bare_array S E name e a =
    let fields = filter (λ (f : Field). bytes_eq name f.name) (fields_before E) in
    let P : Bool → Type 0 = λ b. (if b then bare_width_reason S fields else formula_reason S (fields_before E) (Some (Read (Path (name ∷ []))))) ≡ None in
    let none : bare_width_reason S fields ≡ None = subst P (array_named name E a) e in
    by (or_cases (list_all (is_number S) fields) (list_all (is_number_array S) fields) (not_false _ (no_reason closed.C9 _ none)))
  where
    by : (list_all (is_number S) (filter (λ (f : Field). bytes_eq name f.name) (fields_before E)) ≡ true) ⊎ (list_all (is_number_array S) (filter (λ (f : Field). bytes_eq name f.name) (fields_before E)) ≡ true)
        → list_all (is_number_array S) (filter (λ (f : Field). bytes_eq name f.name) (fields_before E)) ≡ true
    by (inl n) = absurd (no_numbers S name E a n)
    by (inr n) = n

width_names : (S : Schema) (E : Env) (width : Formula) (name : Name) → width_reason S (fields_before E) (Some width) ≡ None → array_name E width ≡ Some name
    → list_all (is_number_array S) (filter (λ (f : Field). bytes_eq name f.name) (fields_before E)) ≡ true
width_names S E Bad name e a = absurd (cc)
width_names S E (Read (Number n)) name e a = absurd (cc)
width_names S E (Read Arg) name e a = absurd (cc)
width_names S E (Read (Path [])) name e a = absurd (cc)
width_names S E (Read (Path (first ∷ []))) name e a = by (is_array first E) refl a
  where
    by : (b : Bool) → is_array first E ≡ b → (if b then Some first else None) ≡ Some name → list_all (is_number_array S) (filter (λ (f : Field). bytes_eq name f.name) (fields_before E)) ≡ true
    by true eb h =
        let same : first ≡ name = cc in
        subst (λ (n : Name). list_all (is_number_array S) (filter (λ (f : Field). bytes_eq n f.name) (fields_before E)) ≡ true) same (bare_array S E first e eb)
    by false eb h = absurd (cc)
width_names S E (Read (Path (first ∷ next ∷ more))) name e a = absurd (cc)
width_names S E (Read (Not of)) name e a = absurd (cc)
width_names S E (Read (Two op left right)) name e a = absurd (cc)

-- ---- one field

field_widths : (S : Schema) (earlier : List Field) (f : Field) → width_reason S earlier (width_where f.length f.width) ≡ None → NamesNumbers S earlier f
field_widths S earlier f e width is E same name a =
    let e' : width_reason S earlier (Some width) ≡ None = subst (λ (w : Option Formula). width_reason S earlier w ≡ None) is e in
    let e'' : width_reason S (fields_before E) (Some width) ≡ None = subst (λ (fields : List Field). width_reason S fields (Some width) ≡ None) (sym same) e' in
    subst (λ (fields : List Field). list_all (is_number_array S) (filter (λ (g : Field). bytes_eq name g.name) fields) ≡ true) same (width_names S E width name e'' a)

-- the reasons that a field may give, in their order
abbrev reasons_of : Schema → Bool → List Field → Field → List (Option Closed)
reasons_of S in_struct earlier f =
    kind_reason S in_struct f
    ∷ template_reason S in_struct f
    ∷ reason_where closed.C11 (is_bad_bound f.since || is_bad_bound f.until)
    ∷ reason_where closed.C12 (is_no_block S f.only || is_no_block S f.exclude)
    ∷ reason_where closed.C4 (is_bad_exact f.user || is_bad_exact f.bs)
    ∷ formula_reason S earlier f.vercond
    ∷ formula_reason S earlier f.cond
    ∷ formula_reason S earlier f.arg
    ∷ formula_reason S earlier f.length
    ∷ width_reason S earlier (width_where f.length f.width)
    ∷ []

field_values : (S : Schema) (in_struct : Bool) (earlier : List Field) (f : Field) → field_reason S in_struct earlier f ≡ None → HasValues S earlier f
unfolding field_reason
field_values S in_struct earlier f e formula c = by (contained_cases f.vercond (f.cond ∷ f.arg ∷ f.length ∷ width_where f.length f.width ∷ []) (Some formula) c)
  where
    reasons : List (Option Closed)
    reasons = reasons_of S in_struct earlier f

    one : (o : Option Formula) → formula_reason S earlier o ≡ None → o ≡ Some formula → HasValue S earlier formula
    one o h same = formula_has S earlier formula (subst (λ (o : Option Formula). formula_reason S earlier o ≡ None) same h)

    last : (o : Option Formula) → width_reason S earlier o ≡ None → o ≡ Some formula → HasValue S earlier formula
    last o h same = width_has S earlier formula (subst (λ (o : Option Formula). width_reason S earlier o ≡ None) same h)

    nothing : Contains [] (Some formula) → HasValue S earlier formula
    nothing c = let l : c.0 < 0 = c.1 in absurd (omega arith)

    by5 : (width_where f.length f.width ≡ Some formula) ⊎ Contains [] (Some formula) → HasValue S earlier formula
    by5 (inl same) = last (width_where f.length f.width) (no_reason_at reasons 9 (width_reason S earlier (width_where f.length f.width)) e refl) same
    by5 (inr c) = nothing c

    by4 : (f.length ≡ Some formula) ⊎ Contains (width_where f.length f.width ∷ []) (Some formula) → HasValue S earlier formula
    by4 (inl same) = one f.length (no_reason_at reasons 8 (formula_reason S earlier f.length) e refl) same
    by4 (inr c) = by5 (contained_cases (width_where f.length f.width) [] (Some formula) c)

    by3 : (f.arg ≡ Some formula) ⊎ Contains (f.length ∷ width_where f.length f.width ∷ []) (Some formula) → HasValue S earlier formula
    by3 (inl same) = one f.arg (no_reason_at reasons 7 (formula_reason S earlier f.arg) e refl) same
    by3 (inr c) = by4 (contained_cases f.length (width_where f.length f.width ∷ []) (Some formula) c)

    by2 : (f.cond ≡ Some formula) ⊎ Contains (f.arg ∷ f.length ∷ width_where f.length f.width ∷ []) (Some formula) → HasValue S earlier formula
    by2 (inl same) = one f.cond (no_reason_at reasons 6 (formula_reason S earlier f.cond) e refl) same
    by2 (inr c) = by3 (contained_cases f.arg (f.length ∷ width_where f.length f.width ∷ []) (Some formula) c)

    by : (f.vercond ≡ Some formula) ⊎ Contains (f.cond ∷ f.arg ∷ f.length ∷ width_where f.length f.width ∷ []) (Some formula) → HasValue S earlier formula
    by (inl same) = one f.vercond (no_reason_at reasons 5 (formula_reason S earlier f.vercond) e refl) same
    by (inr c) = by2 (contained_cases f.cond (f.arg ∷ f.length ∷ width_where f.length f.width ∷ []) (Some formula) c)

last_reason : (S : Schema) (in_struct : Bool) (earlier : List Field) (f : Field) → field_reason S in_struct earlier f ≡ None → width_reason S earlier (width_where f.length f.width) ≡ None
unfolding field_reason
last_reason S in_struct earlier f e = no_reason_at (reasons_of S in_struct earlier f) 9 (width_reason S earlier (width_where f.length f.width)) e refl

field_has : (S : Schema) (in_struct : Bool) (earlier : List Field) (f : Field) → field_reason S in_struct earlier f ≡ None → IsDefined S earlier f
field_has S in_struct earlier f e = record {
  values = field_values S in_struct earlier f e;
  widths = field_widths S earlier f (last_reason S in_struct earlier f e);
}

-- ---- the fields of a line

fields_placed : (S : Schema) (in_struct : Bool) (earlier fields : List Field) → fields_reason S in_struct earlier fields ≡ None → EachPlaced (IsDefined S) earlier fields
fields_placed S in_struct earlier [] e = tt
fields_placed S in_struct earlier (f ∷ fields) e =
    let r1 = no_first (field_reason S in_struct earlier f) _ e in
    let r2 = no_first (fields_reason S in_struct (earlier ++ f ∷ []) fields) [] r1.1 in
    (field_has S in_struct earlier f r1.0, fields_placed S in_struct (earlier ++ f ∷ []) fields r2.0)

placed_append : (P : List Field → Field → Type 0) (earlier a b : List Field) → EachPlaced P earlier a → EachPlaced P (earlier ++ a) b → EachPlaced P earlier (a ++ b)
placed_append P earlier [] b x y = subst (λ (fields : List Field). EachPlaced P fields b) (append-nil earlier) y
placed_append P earlier (f ∷ a) b x y =
    (x.0, placed_append P (earlier ++ f ∷ []) a b x.1 (subst (λ (fields : List Field). EachPlaced P fields b) (sym (append_assoc earlier (f ∷ []) a)) y))

ancestor_up : (S : Schema) (k n p : ℕ) → parent S n ≡ Some p → ancestor S (suc k) n ≡ ancestor S k p
ancestor_up S zero n p e = e
ancestor_up S (suc k) n p e = ap (option_and_then (parent S)) (ancestor_up S k n p e)

-- Behind the end of the walk of parents, more steps give the same line.
line_same : (S : Schema) (m l n : ℕ) → ancestor S m n ≡ None → ancestor S l n ≡ None → line_within m S n ≡ line_within l S n
line_same S zero l n a b = absurd (cc)
line_same S (suc m) zero n a b = absurd (cc)
line_same S (suc m) (suc l) n a b = by (parent S n) refl (λ p x y. line_same S m l p x y)
  where
    P : Option ℕ → Type 0
    P x = option_map_or (line_within m S) x [] ++ fields_of S n ≡ option_map_or (line_within l S) x [] ++ fields_of S n

    by : (x : Option ℕ) → parent S n ≡ x → ((p : ℕ) → ancestor S m p ≡ None → ancestor S l p ≡ None → line_within m S p ≡ line_within l S p) → P (parent S n)
    by None e ih = subst P (sym e) refl
    by (Some p) e ih = subst P (sym e) (ap (λ (fields : List Field). fields ++ fields_of S n) (ih p (sym (ancestor_up S m n p e) ∙ a) (sym (ancestor_up S l n p e) ∙ b)))

none_of : {A : Type 0} (o : Option A) → is_some o ≡ false → o ≡ None
none_of None e = refl
none_of (Some x) e = absurd (true≢false e)

walk_ends : (S : Schema) (n : ℕ) → IsOpenType S n → ancestor S (length S) n ≡ None
unfolding has_no_root
walk_ends S n o = let x = declared S n o.0 in none_of (ancestor S (length S) n) (own_facts S n x.0 x.1 (o.1 n (Here n))).rooted

line_has : (S : Schema) (m n : ℕ) → IsOpenType S n → ancestor S m n ≡ None → EachPlaced (IsDefined S) [] (line_within m S n)
line_has S zero n o a = absurd (cc)
line_has S (suc m) n o a = by (parent S n) refl (λ p up x. line_has S m p up x)
  where
    x : (d : Declaration) × (slice_get S n ≡ Some d)
    x = declared S n o.0

    own : EachPlaced (IsDefined S) (line_above S n) (fields_of S n)
    own =
        let at : fields_of S n ≡ x.0.fields = ap (λ (d : Option Declaration). option_map_or (λ d. d.fields) d []) x.1 in
        subst (λ (fields : List Field). EachPlaced (IsDefined S) (line_above S n) fields) (sym at)
        (fields_placed S (is_struct x.0.what) (line_above S n) x.0.fields (own_facts S n x.0 x.1 (o.1 n (Here n))).fields)

    P : Option ℕ → Type 0
    P y = EachPlaced (IsDefined S) (option_map_or (line S) y []) (fields_of S n) → EachPlaced (IsDefined S) [] (option_map_or (line_within m S) y [] ++ fields_of S n)

    by : (y : Option ℕ) → parent S n ≡ y → ((p : ℕ) → IsOpenType S p → ancestor S m p ≡ None → EachPlaced (IsDefined S) [] (line_within m S p))
        → EachPlaced (IsDefined S) [] (line_within (suc m) S n)
    by None e ih =
        let at : P None = λ h. h in
        subst P (sym e) at own
    by (Some p) e ih =
        let up : IsOpenType S p = (parent_within S n p e, open_used S n p o.1 (uses_parent S n p e)) in
        let end : ancestor S m p ≡ None = sym (ancestor_up S m n p e) ∙ a in
        let same : line S p ≡ line_within m S p = line_same S (length S) m p (walk_ends S p up) end in
        let at : P (Some p) = λ h. placed_append (IsDefined S) [] (line_within m S p) (fields_of S n) (ih p up end)
        (subst (λ (fields : List Field). EachPlaced (IsDefined S) fields (fields_of S n)) same h) in
        subst P (sym e) at own

-- In an open type each expression has a value.
pub all_defined : (S : Schema) (number : ℕ) → IsOpenType S number → AllDefined S number
all_defined S number o = line_has S (length S) number o (walk_ends S number o)
