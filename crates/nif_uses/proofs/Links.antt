-- Links of uses.
use Rattle.std.proofs.Common.{◌≡◌, ◌≢◌, ℕ, zero, suc, ◌+◌, ◌<◌, ◌≤◌, true, if◌then◌else◌, get_or, drop, List, [], ◌∷◌, ◌++◌, length, map, set, Option, Some, None, slice_get, All, Contains, inl, inr, refl, sym, ap, subst, ◌∙◌, append_assoc, arith}
use Rattle.std.specs.Option.{option_to_list, option_map_or}
use Rattle.std.specs.List.{flat_map}
use Rattle.std.proofs.lemmas.List.{map-append, length-append, append-nil}
use Rattle.std.proofs.lemmas.List.Elements.{Contains-get_or, Contains-append_cases, Contains-append_left, Contains-append_right}
use Rattle.std.proofs.lemmas.Bool.{cases_lt, cases_eq}
use Rattle.std.proofs.lemmas.Option.{slice_get_within, slice_get_past, get_or_from_slice_get}
use Rattle.nif_schema.specs.Schema.{Schema, parent, fields_of}
use Rattle.nif_schema.specs.Declaration.{Field, Declaration, declaration, field}
use Rattle.nif_schema.specs.declared.decls.Decl.{Decl}
use Rattle.nif_schema.specs.declared.fields.Field as kept_field
use Rattle.nif_schema.specs.Uses.{named, named_template, is_generic, uses, uses_of_field}
use Rattle.nif_uses.specs.declared.users.Link.{Link}
use Rattle.nif_uses.specs.Users.{Use, pairs, uses_by, uses_below, IsLatest, IsLinked}
use Rattle.nif_uses.proofs.Lists.{get-front, get-last, get-set_same, get-set_other, contains-map, contained-map, drop-at, drop_past}

-- ---- the links of no uses

pub linked-none : (latest : List (Option ℕ)) → All (λ at. at ≡ None) latest → IsLinked latest []
linked-none latest none = record {
  before = λ k l e. absurd (cc);
  last = λ used at e.
      let is : at ≡ None = sym (get_or_from_slice_get latest used at at e) ∙ none used at (slice_get_within latest used at e) in
      subst (λ (o : Option ℕ). IsLatest [] used 0 o) (sym is) (λ k l lt e. absurd (omega arith));
}

-- ---- one more link

-- the last of the first links stays where one more link stands behind them
latest-longer : (links : List Link) (l : Link) (used n : ℕ) (at : Option ℕ) → n ≤ length links → IsLatest links used n at → IsLatest (links ++ l ∷ []) used n at
latest-longer links l used n None le is = λ k m lt e. is k m lt (sym (get-front links (l ∷ []) k (omega arith)) ∙ e)
latest-longer links l used n (Some at) le is =
    let within : at < length links = omega (arith, is.0) in (
      is.0,
      λ m e. is.1 m (sym (get-front links (l ∷ []) at within) ∙ e),
      λ k m above lt e. is.2 k m above lt (sym (get-front links (l ∷ []) k (omega arith)) ∙ e),
    )

-- also among all of them, where the new link is of another declaration
new_one : (links : List Link) (l : Link) (used k : ℕ) (m : Link) → l.used ≢ used → k < length links + 1 → slice_get (links ++ l ∷ []) k ≡ Some m
    → (k < length links → m.used ≢ used) → m.used ≢ used
new_one links l used k m other lt e old = elim (cases_lt k (length links)) [
  | inl front ↦ old front
  | inr back ↦
      let last : k ≡ length links = omega arith in
      let same : slice_get (links ++ l ∷ []) k ≡ Some l = ap (slice_get (links ++ l ∷ [])) last ∙ get-last links l in
      let is : m ≡ l = cc in λ is_used. other (sym (ap (λ (x : Link). x.used) is) ∙ is_used)
]

latest-other : (links : List Link) (l : Link) (used : ℕ) (at : Option ℕ) → l.used ≢ used → IsLatest links used (length links) at
    → IsLatest (links ++ l ∷ []) used (length links + 1) at
latest-other links l used None other is = λ k m lt e. new_one links l used k m other lt e (λ front. is k m front (sym (get-front links (l ∷ []) k front) ∙ e))
latest-other links l used (Some at) other is = (
  omega (arith, is.0),
  λ m e. is.1 m (sym (get-front links (l ∷ []) at is.0) ∙ e),
  λ k m above lt e. new_one links l used k m other lt e (λ front. is.2 k m above front (sym (get-front links (l ∷ []) k front) ∙ e)),
)

-- and the new link is the last one of its declaration
latest-new : (links : List Link) (l : Link) → IsLatest (links ++ l ∷ []) l.used (length links + 1) (Some (length links))
latest-new links l = (
  omega arith,
  λ m e. let at = get-last links l in let is : m ≡ l = cc in ap (λ (x : Link). x.used) is,
  λ k m above lt e. absurd (omega arith),
)

pub linked-add : (latest : List (Option ℕ)) (links : List Link) (l : Link) → IsLinked latest links → slice_get latest l.used ≡ Some l.before
    → IsLinked (set latest l.used (Some (length links))) (links ++ l ∷ [])
linked-add latest links l is at = record { before = before; last = last }
  where
    before : (k : ℕ) (m : Link) → slice_get (links ++ l ∷ []) k ≡ Some m → IsLatest (links ++ l ∷ []) m.used k m.before
    before k m e = elim (cases_lt k (length links)) [
      | inl front ↦ latest-longer links l m.used k m.before (omega arith) (is.before k m (sym (get-front links (l ∷ []) k front) ∙ e))
      | inr back ↦
          let within : k < length (links ++ l ∷ []) = slice_get_within (links ++ l ∷ []) k m e in
          let last : length links ≡ k = omega (arith, length-append links (l ∷ [])) in
          let same : slice_get (links ++ l ∷ []) k ≡ Some l = ap (slice_get (links ++ l ∷ [])) (sym last) ∙ get-last links l in
          let is_new : l ≡ m = cc in
          let old : IsLatest (links ++ l ∷ []) l.used (length links) l.before =
          latest-longer links l l.used (length links) l.before (omega arith) (is.last l.used l.before at)
          in
          subst (λ (x : Link). IsLatest (links ++ l ∷ []) x.used k x.before) is_new (subst (λ (n : ℕ). IsLatest (links ++ l ∷ []) l.used n l.before) last old)
    ]

    all : length (links ++ l ∷ []) ≡ length links + 1
    all = length-append links (l ∷ [])

    last : (used : ℕ) (o : Option ℕ) → slice_get (set latest l.used (Some (length links))) used ≡ Some o
        → IsLatest (links ++ l ∷ []) used (length (links ++ l ∷ [])) o
    last used o e = subst (λ (n : ℕ). IsLatest (links ++ l ∷ []) used n o) (sym all) (elim (cases_eq used l.used) [
      | inl same ↦
          let here = get-set_same latest l.used (Some (length links)) (slice_get_within latest l.used l.before at) in
          let there : slice_get (set latest l.used (Some (length links))) l.used ≡ Some o = ap (slice_get (set latest l.used (Some (length links)))) (sym same) ∙ e in
          let is_new : Some (length links) ≡ o = cc in
          subst (λ (p : Option ℕ). IsLatest (links ++ l ∷ []) used (length links + 1) p) is_new
          (subst (λ (u : ℕ). IsLatest (links ++ l ∷ []) u (length links + 1) (Some (length links))) (sym same) (latest-new links l))
      | inr other ↦ latest-other links l used o (λ s. other (sym s)) (is.last used o (sym (get-set_other latest l.used used (Some (length links)) other) ∙ e))
    ])

-- ---- all uses

contains_by : (user : ℕ) (numbers : List ℕ) (used u : ℕ) → Contains (uses_by user numbers) (used, u) → (u ≡ user) × Contains numbers used
contains_by user numbers used u c =
    let m = contained-map (λ (n : ℕ). let p : Use = (n, user) in p) numbers (used, u) c in
    let first : m.0 ≡ used = ap (λ (p : Use). p.0) m.2 in
    let second : user ≡ u = ap (λ (p : Use). p.1) m.2 in (sym second, subst (λ (n : ℕ). Contains numbers n) first m.1)

-- a use is below a number where its user is
pub below-use : (schema : Schema) (n used user : ℕ) → Contains (uses_below schema n) (used, user) → (user < n) × Contains (uses schema user) used
below-use schema zero used user c = absurd (omega (arith, c.1))
below-use schema (suc n) used user c = elim (Contains-append_cases (uses_below schema n) (uses_by n (uses schema n)) (used, user) c) [
  | inl old ↦ let p = below-use schema n used user old in (omega (arith, p.0), p.1)
  | inr new ↦
      let p = contains_by n (uses schema n) used user new in
      (omega (arith, p.0), subst (λ (u : ℕ). Contains (uses schema u) used) (sym p.0) p.1)
]

pub use-below : (schema : Schema) (n used user : ℕ) → user < n → Contains (uses schema user) used → Contains (uses_below schema n) (used, user)
use-below schema zero used user lt c = absurd (omega arith)
use-below schema (suc n) used user lt c = elim (cases_lt user n) [
  | inl less ↦ Contains-append_left (uses_below schema n) (uses_by n (uses schema n)) (used, user) (use-below schema n used user less c)
  | inr last ↦
      let is : user ≡ n = omega arith in
      let here : Contains (uses schema n) used = subst (λ (u : ℕ). Contains (uses schema u) used) is c in
      let it : Contains (uses_by n (uses schema n)) (used, n) = contains-map (λ (k : ℕ). let p : Use = (k, n) in p) (uses schema n) used here in
      Contains-append_right (uses_below schema n) (uses_by n (uses schema n)) (used, user) (subst (λ (u : ℕ). Contains (uses_by n (uses schema n)) (used, u)) (sym is) it)
]

-- only a declaration uses something
pub uses-within : (schema : Schema) (user used : ℕ) → Contains (uses schema user) used → user < length schema
unfolding uses parent
uses-within schema user used c = elim (cases_lt user (length schema)) [
  | inl lt ↦ lt
  | inr past ↦
      let none = slice_get_past schema user past in
      let none_used : uses schema user ≡ [] = rw none refl in
      let no : Contains [] used = subst (λ (l : List ℕ). Contains l used) none_used c in absurd (omega (arith, no.1))
]

-- the users of links are users of uses
pub users-within : (schema : Schema) (links : List Link) (n : ℕ) → pairs links ≡ uses_below schema (length schema) → n ≡ length schema
    → All (λ (l : Link). l.user < n) links
users-within schema links n e count = λ k d lt.
    let l = get_or links k d in
    let there : Contains links l = Contains-get_or links k d lt in
    let it : Contains (pairs links) (l.used, l.user) = contains-map (λ (m : Link). let p : Use = (m.used, m.user) in p) links l there in
    let uses_it : Contains (uses_below schema (length schema)) (l.used, l.user) = subst (λ (us : List Use). Contains us (l.used, l.user)) e it in
    omega (arith, (below-use schema (length schema) l.used l.user uses_it).0)

-- ---- the uses of a field and of a declaration

-- a field whose type names a declaration
pub field-uses : (schema : Schema) (f : Field) (kind : ℕ) (o : Option ℕ) → named schema f.kind ≡ Some kind → is_generic schema kind ≡ true → named_template schema f ≡ o
    → uses_of_field schema f ≡ kind ∷ option_to_list o
field-uses schema f kind o at generic template =
    ap (λ (n : Option ℕ). option_map_or (λ k. option_to_list (Some k) ++ (if is_generic schema k then option_to_list (named_template schema f) else [])) n []) at
    ∙ ap (λ b. kind ∷ (if b then option_to_list (named_template schema f) else [])) generic
    ∙ ap (λ (t : Option ℕ). kind ∷ option_to_list t) template

-- one use behind another
pub uses-push : (links more all : List Use) (first second user : ℕ) → more ≡ links ++ (first, user) ∷ [] → all ≡ more ++ (second, user) ∷ []
    → all ≡ links ++ uses_by user (first ∷ second ∷ [])
uses-push links more all first second user e f = f ∙ ap (λ (us : List Use). us ++ (second, user) ∷ []) e ∙ append_assoc links ((first, user) ∷ []) ((second, user) ∷ [])

-- the uses of own fields from a place on
abbrev pub fields_left : Schema → ℕ → List kept_field.Field → ℕ → List Use
fields_left schema user fields place = uses_by user (flat_map (uses_of_field schema) (map field (drop place fields)))

-- behind the parent all own fields are left
pub uses-begin : (schema : Schema) (user : ℕ) (d : Decl) (links more : List Use) → slice_get schema user ≡ Some (declaration d)
    → more ≡ links ++ uses_by user (option_to_list (parent schema user)) → more ++ fields_left schema user d.fields 0 ≡ links ++ uses_by user (uses schema user)
unfolding uses
uses-begin schema user d links more at e =
    let fields = map field d.fields in
    let of : fields_of schema user ≡ fields = ap (λ (o : Option Declaration). option_map_or (λ x. x.fields) o []) at in
    let by : ℕ → Use = λ used. (used, user) in
    ap (λ (us : List Use). us ++ uses_by user (flat_map (uses_of_field schema) fields)) e
    ∙ append_assoc links (uses_by user (option_to_list (parent schema user))) (uses_by user (flat_map (uses_of_field schema) fields))
    ∙ ap (λ (us : List Use). links ++ us) (sym (map-append by (option_to_list (parent schema user)) (flat_map (uses_of_field schema) fields)))
    ∙ ap (λ (fs : List Field). links ++ uses_by user (option_to_list (parent schema user) ++ flat_map (uses_of_field schema) fs)) (sym of)

pub uses-next : (schema : Schema) (user : ℕ) (fields : List kept_field.Field) (place : ℕ) (f : kept_field.Field) (links more : List Use) → slice_get fields place ≡ Some f
    → more ≡ links ++ uses_by user (uses_of_field schema (field f)) → more ++ fields_left schema user fields (place + 1) ≡ links ++ fields_left schema user fields place
uses-next schema user fields place f links more at e =
    let by : ℕ → Use = λ used. (used, user) in
    let left = flat_map (uses_of_field schema) (map field (drop (place + 1) fields)) in
    ap (λ (us : List Use). us ++ uses_by user left) e
    ∙ append_assoc links (uses_by user (uses_of_field schema (field f))) (uses_by user left)
    ∙ ap (λ (us : List Use). links ++ us) (sym (map-append by (uses_of_field schema (field f)) left))
    ∙ ap (λ (fs : List kept_field.Field). links ++ uses_by user (flat_map (uses_of_field schema) (map field fs))) (sym (drop-at fields place f at))

pub uses-end : (schema : Schema) (user : ℕ) (fields : List kept_field.Field) (place : ℕ) (links : List Use) → length fields ≤ place → links ≡ links ++ fields_left schema user fields place
uses-end schema user fields place links past =
    sym (append-nil links) ∙ ap (λ (fs : List kept_field.Field). links ++ uses_by user (flat_map (uses_of_field schema) (map field fs))) (sym (drop_past fields place past))
