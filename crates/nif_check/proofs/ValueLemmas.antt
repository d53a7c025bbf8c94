-- The values of an open type.
use Rattle.std.proofs.Common.{◌≡◌, ◌≢◌, ◌⊎◌, ℕ, zero, suc, ◌&&◌, ◌||◌, not, Bool, true, false, if◌then◌else◌, List, [], ◌∷◌, ◌++◌, length, map, Option, Some, None, Contains, slice_get, bytes_eq, inl, inr, refl, sym, ap, subst, ◌∙◌, append_assoc, arith}
use Rattle.std.proofs.lemmas.List.{append-nil}
use Rattle.std.specs.List.{list_any, list_all, filter, flat_map}
use Rattle.std.specs.Option.{option_and_then}
use Rattle.std.proofs.lemmas.List.Elements.{Contains-append_left, Contains-append_right}
use Rattle.nif_schema.specs.Declaration.{Name, Formula, Read, Bad, Field, Declaration}
use Rattle.nif_schema.specs.Expression.{Number, Arg, Path, Not, Two}
use Rattle.nif_schema.specs.Schema.{Schema}
use Rattle.nif_schema.specs.Uses.{Here, is_struct}
use Rattle.nif_schema.specs.Paths.{paths_of, Meaning, OfField, ends_path, goes_on, inside, is_empty, is_number, is_number_array, is_header_path, fields_named, rest_reason, path_reason}
use Rattle.nif_schema.specs.Reasons.{own_reason, IsOpen, first_reason, reason_where, kind_reason, template_reason, is_bad_bound, is_no_block, is_bad_exact, lacks_parent, has_no_root, ancestor_lacks, is_unread, has_bad_member, formula_reason, bare_width_reason, width_reason, width_where, field_reason, fields_reason, line_above}
use Rattle.nif_schema.specs.declared.faults.Closed.{Closed}
use Rattle.nif_schema.specs.declared.faults.Closed.TheVariants.{C0, C2, C3, C4, C5, C6, C9, C10, C11, C12, C13}
use Rattle.nif_check.specs.Values.{Leads, End, Further, is_declared, HasValue, OfHeader, OfFields, HasValues, NamesArrays, IsReadable}

-- ---- lists

-- a member is the first or one behind it
member : {A : Type 0} (x y : A) (xs : List A) → Contains (x ∷ xs) y → (x ≡ y) ⊎ Contains xs y
member x y xs (zero, lt, e) = inl e
member x y xs (suc k, lt, e) = inr (k, omega arith, e)

here : {A : Type 0} (x : A) (xs : List A) → Contains (x ∷ xs) x
here x xs = (0, omega arith, refl)

later : {A : Type 0} (x y : A) (xs : List A) → Contains xs y → Contains (x ∷ xs) y
later x y xs c = (suc c.0, omega (arith, c.1), c.2)

both : (a b : Bool) → a && b ≡ true → (a ≡ true) × (b ≡ true)
both true b e = (refl, e)
both false b e = absurd (cc)

neither : (a b : Bool) → a || b ≡ false → (a ≡ false) × (b ≡ false)
neither true b e = absurd (cc)
neither false b e = (refl, e)

all-member : {A : Type 0} (p : A → Bool) (xs : List A) (x : A) → list_all p xs ≡ true → Contains xs x → p x ≡ true
all-member p [] x e c = absurd (omega (arith, c.1))
all-member p (y ∷ ys) x e c =
    let b = both (p y) (list_all p ys) e in
    elim (member y x ys c) [ inl is ↦ ap p (sym is) ∙ b.0 | inr rest ↦ all-member p ys x b.1 rest ]

none-member : {A : Type 0} (p : A → Bool) (xs : List A) (x : A) → list_any p xs ≡ false → Contains xs x → p x ≡ false
none-member p [] x e c = absurd (omega (arith, c.1))
none-member p (y ∷ ys) x e c =
    let b = neither (p y) (list_any p ys) e in
    elim (member y x ys c) [ inl is ↦ ap p (sym is) ∙ b.0 | inr rest ↦ none-member p ys x b.1 rest ]

flat-member : {A B : Type 0} (f : A → List B) (xs : List A) (x : A) (y : B) → Contains xs x → Contains (f x) y → Contains (flat_map f xs) y
flat-member f [] x y c d = absurd (omega (arith, c.1))
flat-member f (z ∷ zs) x y c d = elim (member z x zs c) [
  | inl is ↦ Contains-append_left (f z) (flat_map f zs) y (subst (λ w. Contains (f w) y) (sym is) d)
  | inr rest ↦ Contains-append_right (f z) (flat_map f zs) y (flat-member f zs x y rest d)
]

filter-member : {A : Type 0} (p : A → Bool) (xs : List A) (x : A) → Contains xs x → p x ≡ true → Contains (filter p xs) x
filter-member p [] x c e = absurd (omega (arith, c.1))
filter-member p (y ∷ ys) x c e = elim (member y x ys c) [
  | inl is ↦
      let yes : p y ≡ true = ap p is ∙ e in
      subst (λ w. Contains (filter p (y ∷ ys)) w) is (subst (λ l. Contains l y) (sym (ap (λ b. if b then y ∷ filter p ys else filter p ys) yes)) (here y (filter p ys)))
  | inr rest ↦ by (p y) refl (filter-member p ys x rest e)
]
  where
    by : (b : Bool) → p y ≡ b → Contains (filter p ys) x → Contains (filter p (y ∷ ys)) x
    by true is c = subst (λ l. Contains l x) (sym (ap (λ b. if b then y ∷ filter p ys else filter p ys) is)) (later y x (filter p ys) c)
    by false is c = subst (λ l. Contains l x) (sym (ap (λ b. if b then y ∷ filter p ys else filter p ys) is)) c

map-member : {A B : Type 0} (f : A → B) (xs : List A) (x : A) → Contains xs x → Contains (map f xs) (f x)
map-member f [] x c = absurd (omega (arith, c.1))
map-member f (y ∷ ys) x c = elim (member y x ys c) [
  | inl is ↦ subst (λ w. Contains (map f (y ∷ ys)) (f w)) is (here (f y) (map f ys))
  | inr rest ↦ later (f y) (f x) (map f ys) (map-member f ys x rest)
]

-- ---- reasons that don't apply

first-none : (o : Option Closed) (rest : List (Option Closed)) → first_reason (o ∷ rest) ≡ None → (o ≡ None) × (first_reason rest ≡ None)
first-none None rest e = (refl, e)
first-none (Some r) rest e = absurd (cc)

where-none : (r : Closed) (b : Bool) → reason_where r b ≡ None → b ≡ false
where-none r true e = absurd (cc)
where-none r false e = refl

if-none : (b : Bool) (r : Closed) → (if b then None else Some r) ≡ None → b ≡ true
if-none true r e = refl
if-none false r e = absurd (cc)

mapped-none : {A : Type 0} (f : A → Option Closed) (xs : List A) (x : A) → first_reason (map f xs) ≡ None → Contains xs x → f x ≡ None
mapped-none f [] x e c = absurd (omega (arith, c.1))
mapped-none f (y ∷ ys) x e c =
    let p = first-none (f y) (map f ys) e in
    elim (member y x ys c) [ inl is ↦ ap f (sym is) ∙ p.0 | inr rest ↦ mapped-none f ys x p.1 rest ]

module _ (S : Schema) where
  -- ---- paths

  empty-not : (ms : List Meaning) → is_empty ms ≡ false → ms ≢ []
  empty-not [] e = absurd (cc)
  empty-not (m ∷ ms) e = λ p. absurd (cc)

  -- what the names behind a first one give, by the two questions at a name
  abbrev by_questions : Bool → Bool → Name → List Meaning → List Name → Option Closed
  by_questions true true name meanings names = Some C5
  by_questions true false name meanings names = rest_reason S (flat_map (inside S name) meanings) names
  by_questions false d name meanings names = Some C6

  asked : (b d : Bool) (name : Name) (meanings : List Meaning) (names : List Name)
      → (if b then (if d then Some C5 else rest_reason S (flat_map (inside S name) meanings) names) else Some C6) ≡ by_questions b d name meanings names
  asked true true name meanings names = refl
  asked true false name meanings names = refl
  asked false d name meanings names = refl

  abbrev lacks : Name → List Meaning → Bool
  lacks name meanings = list_any (λ n. is_empty (inside S name n)) meanings

  pub leads : (names : List Name) (meanings : List Meaning) → rest_reason S meanings names ≡ None → (m : Meaning) → Contains meanings m → Leads S m names
  leads [] meanings e m c = End m (all-member (ends_path S) meanings m (if-none (list_all (ends_path S) meanings) C6 e) c)
  leads (name ∷ names) meanings e m c =
      by (list_all (goes_on S) meanings) refl (lacks name meanings) refl (sym (asked (list_all (goes_on S) meanings) (lacks name meanings) name meanings names) ∙ e)
      (λ rest n d. leads names (flat_map (inside S name) meanings) rest n d)
    where
      by : (b : Bool) → list_all (goes_on S) meanings ≡ b → (d : Bool) → lacks name meanings ≡ d → by_questions b d name meanings names ≡ None
          → (rest_reason S (flat_map (inside S name) meanings) names ≡ None → (n : Meaning) → Contains (flat_map (inside S name) meanings) n → Leads S n names)
          → Leads S m (name ∷ names)
      by false p d q r on = absurd (cc)
      by true p true q r on = absurd (cc)
      by true p false q r on =
          Further m name names (all-member (goes_on S) meanings m p c) (empty-not (inside S name m) (none-member (λ n. is_empty (inside S name n)) meanings m q c))
          (λ n d. on r n (flat-member (inside S name) meanings m n c d))

  -- the fields of a name, and whether there are any
  abbrev meanings_with : Bool → Field → List Field → List Meaning
  meanings_with b f rest = map (λ x. OfField x) (if b then f ∷ rest else rest)

  declared-none : (name : Name) (fields : List Field) → fields_named name fields ≡ [] → is_declared name fields ≡ false
  declared-none name [] e = refl
  declared-none name (f ∷ fields) e = by (bytes_eq name f.name) refl e (declared-none name fields)
    where
      by : (b : Bool) → bytes_eq name f.name ≡ b → meanings_with (bytes_eq name f.name) f (filter (λ x. bytes_eq name x.name) fields) ≡ []
          → (fields_named name fields ≡ [] → is_declared name fields ≡ false) → is_declared name (f ∷ fields) ≡ false
      by true p q on =
          let there : meanings_with true f (filter (λ x. bytes_eq name x.name) fields) ≡ [] = ap (λ c. meanings_with c f (filter (λ x. bytes_eq name x.name) fields)) (sym p) ∙ q in
          absurd (cc)
      by false p q on =
          ap (λ b. b || is_declared name fields) p ∙ on (ap (λ c. meanings_with c f (filter (λ x. bytes_eq name x.name) fields)) (sym p) ∙ q)

  declared-some : (name : Name) (fields : List Field) (m : Meaning) (ms : List Meaning) → fields_named name fields ≡ m ∷ ms → is_declared name fields ≡ true
  declared-some name [] m ms e = absurd (cc)
  declared-some name (f ∷ fields) m ms e = by (bytes_eq name f.name) refl e (declared-some name fields m ms)
    where
      by : (b : Bool) → bytes_eq name f.name ≡ b → meanings_with (bytes_eq name f.name) f (filter (λ x. bytes_eq name x.name) fields) ≡ m ∷ ms
          → (fields_named name fields ≡ m ∷ ms → is_declared name fields ≡ true) → is_declared name (f ∷ fields) ≡ true
      by true p q on = ap (λ b. b || is_declared name fields) p
      by false p q on =
          ap (λ b. b || is_declared name fields) p ∙ on (ap (λ c. meanings_with c f (filter (λ x. bytes_eq name x.name) fields)) (sym p) ∙ q)

  meant : (name : Name) (fields : List Field) (f : Field) → Contains fields f → bytes_eq name f.name ≡ true → Contains (fields_named name fields) (OfField f)
  meant name fields f c e = map-member (λ x. OfField x) (filter (λ x. bytes_eq name x.name) fields) f (filter-member (λ x. bytes_eq name x.name) fields f c e)

  abbrev by_meanings : Name → List Name → List Meaning → Option Closed
  by_meanings first names [] = if is_header_path (first ∷ names) then None else Some C5
  by_meanings first names (m ∷ ms) = rest_reason S (m ∷ ms) names

  pub has-value : (earlier : List Field) (path : List Name) → path_reason S earlier path ≡ None → HasValue S earlier path
  has-value earlier [] e = absurd (cc)
  has-value earlier (first ∷ names) e = by (fields_named first earlier) refl e
    where
      by : (ms : List Meaning) → fields_named first earlier ≡ ms → by_meanings first names (fields_named first earlier) ≡ None → HasValue S earlier (first ∷ names)
      by [] p q =
          OfHeader first names (declared-none first earlier p) (if-none (is_header_path (first ∷ names)) C5 (ap (by_meanings first names) (sym p) ∙ q))
      by (m ∷ ms) p q = OfFields first names (declared-some first earlier m ms p) (λ f c is.
          leads names (m ∷ ms) (ap (by_meanings first names) (sym p) ∙ q) (OfField f) (subst (λ l. Contains l (OfField f)) p (meant first earlier f c is)))

  pub has-values : (earlier : List Field) (formula : Option Formula) → formula_reason S earlier formula ≡ None → HasValues S earlier formula
  has-values earlier None e = tt
  has-values earlier (Some Bad) e = absurd (cc)
  has-values earlier (Some (Read of)) e = λ path c. has-value earlier path (mapped-none (path_reason S earlier) (paths_of of) path e c)

  -- ---- widths

  abbrev Width : List Field → Option Formula → Type 0
  Width earlier width = HasValues S earlier width ⊎ NamesArrays S earlier width

  bare : (earlier : List Field) (name : Name) → width_reason S earlier (Some (Read (Path (name ∷ [])))) ≡ None → Width earlier (Some (Read (Path (name ∷ []))))
  bare earlier name e = by (is_declared name earlier) refl
    where
      named : List Field
      named = filter (λ f. bytes_eq name f.name) earlier

      at : (b : Bool) → is_declared name earlier ≡ b → (if b then bare_width_reason S named else formula_reason S earlier (Some (Read (Path (name ∷ []))))) ≡ None
      at b p = sym (ap (λ c. if c then bare_width_reason S named else formula_reason S earlier (Some (Read (Path (name ∷ []))))) p) ∙ e

      flip : (b : Bool) → not b ≡ false → b ≡ true
      flip true p = refl
      flip false p = absurd (cc)

      numbers : is_declared name earlier ≡ true → list_all (is_number S) named ≡ true → HasValue S earlier (name ∷ [])
      numbers p q = OfFields name [] p (λ f c is. End (OfField f) (all-member (is_number S) named f q (filter-member (λ x. bytes_eq name x.name) earlier f c is)))

      only_path : (path : List Name) → HasValue S earlier (name ∷ []) → Contains ((name ∷ []) ∷ []) path → HasValue S earlier path
      only_path path v c = elim (member (name ∷ []) path [] c) [ inl is ↦ subst (λ (l : List Name). HasValue S earlier l) is v | inr rest ↦ absurd (omega (arith, rest.1)) ]

      either : is_declared name earlier ≡ true → (b : Bool) → list_all (is_number S) named ≡ b → b || list_all (is_number_array S) named ≡ true → Width earlier (Some (Read (Path (name ∷ []))))
      either p true q r = inl (λ path c. only_path path (numbers p q) c)
      either p false q r = inr (record {
        name = name;
        bare = refl;
        declared = p;
        arrays = λ f c is. all-member (is_number_array S) named f r (filter-member (λ x. bytes_eq name x.name) earlier f c is);
      })

      by : (b : Bool) → is_declared name earlier ≡ b → Width earlier (Some (Read (Path (name ∷ []))))
      by false p = inl (has-values earlier (Some (Read (Path (name ∷ [])))) (at false p))
      by true p =
          let some = flip (list_all (is_number S) named || list_all (is_number_array S) named) (where-none C9 (not (list_all (is_number S) named || list_all (is_number_array S) named)) (at true p)) in
          either p (list_all (is_number S) named) refl some

  pub has-width : (earlier : List Field) (width : Option Formula) → width_reason S earlier width ≡ None → Width earlier width
  has-width earlier None e = inl tt
  has-width earlier (Some Bad) e = absurd (cc)
  has-width earlier (Some (Read (Number value))) e = inl (has-values earlier (Some (Read (Number value))) e)
  has-width earlier (Some (Read Arg)) e = inl (has-values earlier (Some (Read Arg)) e)
  has-width earlier (Some (Read (Path []))) e = inl (has-values earlier (Some (Read (Path []))) e)
  has-width earlier (Some (Read (Path (name ∷ [])))) e = bare earlier name e
  has-width earlier (Some (Read (Path (name ∷ next ∷ names)))) e = inl (has-values earlier (Some (Read (Path (name ∷ next ∷ names)))) e)
  has-width earlier (Some (Read (Not of))) e = inl (has-values earlier (Some (Read (Not of))) e)
  has-width earlier (Some (Read (Two op left right))) e = inl (has-values earlier (Some (Read (Two op left right))) e)

  -- ---- fields

  abbrev AllNone : List (Option Closed) → Type 0
  AllNone [] = Unit {0}
  AllNone (o ∷ rest) = (o ≡ None) × AllNone rest

  all-none : (os : List (Option Closed)) → first_reason os ≡ None → AllNone os
  all-none [] e = tt
  all-none (o ∷ rest) e = let p = first-none o rest e in (p.0, all-none rest p.1)

  abbrev field_list : Bool → List Field → Field → List (Option Closed)
  field_list in_struct earlier f =
      kind_reason S in_struct f
      ∷ template_reason S in_struct f
      ∷ reason_where C11 (is_bad_bound f.since || is_bad_bound f.until)
      ∷ reason_where C12 (is_no_block S f.only || is_no_block S f.exclude)
      ∷ reason_where C4 (is_bad_exact f.user || is_bad_exact f.bs)
      ∷ formula_reason S earlier f.vercond
      ∷ formula_reason S earlier f.cond
      ∷ formula_reason S earlier f.arg
      ∷ formula_reason S earlier f.length
      ∷ width_reason S earlier (width_where f.length f.width)
      ∷ []

  pub field-readable : (in_struct : Bool) (earlier : List Field) (f : Field) → field_reason S in_struct earlier f ≡ None → IsReadable S earlier f
  unfolding field_reason
  field-readable in_struct earlier f e =
      let a = all-none (field_list in_struct earlier f) e in
      let expressions = a.1.1.1.1.1 in record {
        vercond = has-values earlier f.vercond expressions.0;
        cond = has-values earlier f.cond expressions.1.0;
        arg = has-values earlier f.arg expressions.1.1.0;
        length = has-values earlier f.length expressions.1.1.1.0;
        width = has-width earlier (width_where f.length f.width) expressions.1.1.1.1.0;
      }

  fields-none : (in_struct : Bool) (earlier before : List Field) (f : Field) (behind : List Field) → fields_reason S in_struct earlier (before ++ f ∷ behind) ≡ None
      → field_reason S in_struct (earlier ++ before) f ≡ None
  fields-none in_struct earlier [] f behind e =
      let p = first-none (field_reason S in_struct earlier f) (fields_reason S in_struct (earlier ++ f ∷ []) behind ∷ []) e in
      ap (λ (l : List Field). field_reason S in_struct l f) (append-nil earlier) ∙ p.0
  fields-none in_struct earlier (g ∷ before) f behind e =
      let p = first-none (field_reason S in_struct earlier g) (fields_reason S in_struct (earlier ++ g ∷ []) (before ++ f ∷ behind) ∷ []) e in
      let q = first-none (fields_reason S in_struct (earlier ++ g ∷ []) (before ++ f ∷ behind)) [] p.1 in
      ap (λ (l : List Field). field_reason S in_struct l f) (sym (append_assoc earlier (g ∷ []) before)) ∙ fields-none in_struct (earlier ++ g ∷ []) before f behind q.0

  abbrev own_list : ℕ → Declaration → List (Option Closed)
  own_list number d =
      reason_where C2 (lacks_parent S number)
      ∷ reason_where C3 (has_no_root S number)
      ∷ reason_where C0 (ancestor_lacks (length S) S number)
      ∷ reason_where C10 (is_unread S d.what)
      ∷ reason_where C13 (has_bad_member S d.what)
      ∷ fields_reason S (is_struct d.what) (line_above S number) d.fields
      ∷ []

  own-fields : (number : ℕ) (d : Declaration) → slice_get S number ≡ Some d → own_reason S number ≡ None → fields_reason S (is_struct d.what) (line_above S number) d.fields ≡ None
  unfolding own_reason
  own-fields number d at none =
      let e : first_reason (own_list number d) ≡ None = sym (ap (λ (o : Option Declaration). option_and_then (λ x. first_reason (own_list number x)) o) at) ∙ none in
      let a = all-none (own_list number d) e in a.1.1.1.1.1.0

pub readable : (schema : Schema) (number : ℕ) (d : Declaration) (before : List Field) (f : Field) (behind : List Field) → IsOpen schema number → slice_get schema number ≡ Some d
    → d.fields ≡ before ++ f ∷ behind → IsReadable schema (line_above schema number ++ before) f
readable schema number d before f behind opens at fields =
    let none = own-fields schema number d at (opens number (Here number)) in
    let here : fields_reason schema (is_struct d.what) (line_above schema number) (before ++ f ∷ behind) ≡ None =
    ap (fields_reason schema (is_struct d.what) (line_above schema number)) (sym fields) ∙ none
    in
    field-readable schema (is_struct d.what) (line_above schema number ++ before) f (fields-none schema (is_struct d.what) (line_above schema number) before f behind here)
