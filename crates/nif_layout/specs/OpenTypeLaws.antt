-- What the checker's reasons say of an open type: the types that its fields lead to are open, too.
use Rattle.std.proofs.Common.{◌≡◌, ℕ, zero, suc, ◌<◌, ◌⊎◌, inl, inr, Bool, true, false, ◌&&◌, ◌||◌, not, if◌then◌else◌, Option, Some, None, List, [], ◌∷◌, ◌++◌, length, slice_get, bytes_eq, option_and_then, refl, sym, ◌∙◌, ap, subst, true≢false, arith, flat_map}
use Rattle.std.specs.Prelude.{Contains, option_to_list}
use Rattle.std.specs.Option.{option_map_or}
use Rattle.std.specs.List.{list_any}
use Rattle.std.proofs.lemmas.List.Quantifiers.{position-Some}
use Rattle.std.proofs.lemmas.List.Elements.{Contains-append_left, Contains-append_right}
use Rattle.nif_schema.specs.Declaration.{Name, Field, Declaration, inherited}
use Rattle.nif_schema.specs.Schema.{Schema, find, find_block, has_block, parent, fields_of}
use Rattle.nif_schema.specs.Uses.{is_own_template, named, what_at, is_struct, is_reference, is_generic, named_template, uses_of_field, uses, Here, Further}
use Rattle.nif_schema.specs.Reasons.{first_reason, reason_where, is_unread, has_bad_member, lacks_parent, has_no_root, ancestor_lacks, names_type, kind_reason, generic_template_reason, reference_template_reason, template_reason, field_reason, fields_reason, line_above, own_reason, IsOpen}
use Rattle.nif_schema.specs.declared.faults.Closed.{Closed}
use Rattle.nif_schema.specs.declared.faults.Closed.TheVariants as closed
use Rattle.nif_layout.specs.Laws.{IsOpenType}
use Rattle.nif_layout.specs.DecideLaws.{EachField}

-- ---- lists of fields

pub each_map : {P Q : Field → Type 0} → ((f : Field) → P f → Q f) → (fields : List Field) → EachField P fields
    → EachField Q fields
each_map h [] e = tt
each_map h (f ∷ fields) e = (h f e.0, each_map h fields e.1)

pub each_both : (P Q : Field → Type 0) (fields : List Field) → EachField P fields → EachField Q fields
    → EachField (λ f. P f × Q f) fields
each_both P Q [] e d = tt
each_both P Q (f ∷ fields) e d = ((e.0, d.0), each_both P Q fields e.1 d.1)

pub each_append : (P : Field → Type 0) (a b : List Field) → EachField P a → EachField P b → EachField P (a ++ b)
each_append P [] b x y = y
each_append P (f ∷ a) b x y = (x.0, each_append P a b x.1 y)

-- what a field uses is used
each_used : (S : Schema) (fields : List Field)
    → EachField (λ f. (m : ℕ) → Contains (uses_of_field S f) m → Contains (flat_map (uses_of_field S) fields) m) fields
each_used S [] = tt
each_used S (f ∷ fields) = (
  λ m c. Contains-append_left (uses_of_field S f) (flat_map (uses_of_field S) fields) m c,
  each_map (λ g h m c. Contains-append_right (uses_of_field S f) (flat_map (uses_of_field S) fields) m (h m c)) fields
      (each_used S fields),
)

pub or_right : (a b : Bool) → b ≡ true → (a || b) ≡ true
or_right true b e = refl
or_right false b e = e

pub or_left : (a b : Bool) → a ≡ true → (a || b) ≡ true
or_left true b e = refl
or_left false b e = absurd (true≢false (sym e))

-- a field that passes a test is one of those that some field passes
pub each_any : (test : Field → Bool) (fields : List Field)
    → EachField (λ f. test f ≡ true → list_any test fields ≡ true) fields
each_any test [] = tt
each_any test (f ∷ fields) = (
  λ e. or_left (test f) (list_any test fields) e,
  each_map
      (λ g h e. or_right (test f) (list_any test fields) (h e)) fields (each_any test fields),
)

-- ---- reasons

pub no_first : (o : Option Closed) (rest : List (Option Closed)) → first_reason (o ∷ rest) ≡ None
    → (o ≡ None) × (first_reason rest ≡ None)
no_first None rest e = (refl, e)
no_first (Some reason) rest e = absurd (cc)

-- where no reason applies, that at a place doesn't
pub no_reason_at : (reasons : List (Option Closed)) (k : ℕ) (o : Option Closed) → first_reason reasons ≡ None
    → slice_get reasons k ≡ Some o → o ≡ None
no_reason_at [] k o e at = absurd (cc)
no_reason_at (r ∷ reasons) zero o e at = let same : r ≡ o = cc in sym same ∙ (no_first r reasons e).0
no_reason_at (r ∷ reasons) (suc k) o e at = no_reason_at reasons k o (no_first r reasons e).1 at

pub no_reason : (reason : Closed) (b : Bool) → reason_where reason b ≡ None → b ≡ false
no_reason reason true e = absurd (cc)
no_reason reason false e = refl

pub not_false : (b : Bool) → not b ≡ false → b ≡ true
not_false true e = refl
not_false false e = absurd (true≢false e)

not_true : (b : Bool) → not b ≡ true → b ≡ false
not_true true e = absurd (true≢false (sym e))
not_true false e = refl

pub and_both : (a b : Bool) → (a && b) ≡ true → (a ≡ true) × (b ≡ true)
and_both true b e = (refl, e)
and_both false b e = absurd (true≢false (sym e))

pub or_cases : (a b : Bool) → (a || b) ≡ true → (a ≡ true) ⊎ (b ≡ true)
or_cases true b e = inl refl
or_cases false b e = inr e

pub find_within : (S : Schema) (name : Name) (n : ℕ) → find S name ≡ Some n → n < length S
find_within [] name n e = absurd (cc)
find_within (d ∷ ds) name n e = (position-Some (λ (x : Declaration). bytes_eq name x.name) (d ∷ ds) n d e).0

pub parent_within : (S : Schema) (n p : ℕ) → parent S n ≡ Some p → p < length S
unfolding parent
parent_within S n p e = by (option_and_then (λ (d : Declaration). inherited d.what) (slice_get S n)) e
  where
    block : (b : Bool) (m : ℕ) → (if b then Some m else None) ≡ Some p → m ≡ p
    block true m e = cc
    block false m e = absurd (cc)

    found : (name : Name) (o : Option ℕ) → find S name ≡ o
        → option_and_then (λ number. if has_block S number then Some number else None) o ≡ Some p → p < length S
    found name None eo e = absurd (cc)
    found name (Some m) eo e = subst (λ (k : ℕ). k < length S) (block (has_block S m) m e) (find_within S name m eo)

    by : (o : Option Name) → option_and_then (find_block S) o ≡ Some p → p < length S
    by None e = absurd (cc)
    by (Some name) e = found name (find S name) refl e

named_cases : (S : Schema) (name : Name) (b : Bool) (n : ℕ) → is_own_template name ≡ b
    → (if b then None else find S name) ≡ Some n → (b ≡ false) × (find S name ≡ Some n)
named_cases S name true n e h = absurd (cc)
named_cases S name false n e h = (refl, h)

pub named_found : (S : Schema) (name : Name) (n : ℕ) → named S name ≡ Some n
    → (is_own_template name ≡ false) × (find S name ≡ Some n)
unfolding named
named_found S name n h = let r = named_cases S name (is_own_template name) n refl h in (r.0, r.1)

accepted : (accepts : ℕ → Bool) (o : Option ℕ) → option_map_or accepts o false ≡ true
    → (n : ℕ) × (o ≡ Some n) × (accepts n ≡ true)
accepted accepts None e = absurd (true≢false (sym e))
accepted accepts (Some n) e = (n, refl, e)

-- a name is `#T#` in a struct, or that of a declaration that is accepted
type_named : (S : Schema) (in_struct : Bool) (accepts : ℕ → Bool) (name : Name)
    → names_type S in_struct accepts name ≡ true
    → ((in_struct ≡ true) × (is_own_template name ≡ true)) ⊎ ((n : ℕ) × (named S name ≡ Some n) × (accepts n ≡ true))
type_named S in_struct accepts name e =
    by (or_cases (in_struct && is_own_template name) (option_map_or accepts (named S name) false) e)
  where
    by : ((in_struct && is_own_template name) ≡ true) ⊎ (option_map_or accepts (named S name) false ≡ true)
        → ((in_struct ≡ true) × (is_own_template name ≡ true))
        ⊎ ((n : ℕ) × (named S name ≡ Some n) × (accepts n ≡ true))
    by (inl a) = inl (and_both in_struct (is_own_template name) a)
    by (inr a) = inr (accepted accepts (named S name) a)

-- ---- what an open type leads to

-- the template of a field of a generic struct
abbrev pub TemplateGood : Schema → Bool → Option Name → Type 0
TemplateGood S in_struct None = ⊥
TemplateGood S in_struct (Some name) =
    ((in_struct ≡ true) × (is_own_template name ≡ true))
    ⊎ ((n : ℕ) × (is_own_template name ≡ false) × (find S name ≡ Some n) × IsOpenType S n × (is_generic S n ≡ false))

abbrev pub FieldGood : Schema → Bool → Field → Type 0
FieldGood S in_struct f =
    ((in_struct ≡ true) × (is_own_template f.kind ≡ true))
    ⊎ ((n : ℕ) × (is_own_template f.kind ≡ false) × (find S f.kind ≡ Some n) × IsOpenType S n
    × (is_generic S n ≡ true → TemplateGood S in_struct f.template))

-- The facts of one declaration, from its own reason.
pub record OwnFacts (S : Schema) (n : ℕ) (d : Declaration) : Type 0 where
  pub rooted : has_no_root S n ≡ false
  pub readable : is_unread S d.what ≡ false
  pub fields : fields_reason S (is_struct d.what) (line_above S n) d.fields ≡ None

pub own_facts : (S : Schema) (n : ℕ) (d : Declaration) → slice_get S n ≡ Some d → own_reason S n ≡ None → OwnFacts S n d
unfolding own_reason
own_facts S n d e o =
    let reasons : Declaration → List (Option Closed) = λ d.
    reason_where closed.C2 (lacks_parent S n)
    ∷ reason_where closed.C3 (has_no_root S n)
    ∷ reason_where closed.C0 (ancestor_lacks (length S) S n)
    ∷ reason_where closed.C10 (is_unread S d.what)
    ∷ reason_where closed.C13 (has_bad_member S d.what)
    ∷ fields_reason S (is_struct d.what) (line_above S n) d.fields
    ∷ [] in
    let P : Option Declaration → Type 0 = λ x. option_and_then (λ d. first_reason (reasons d)) x ≡ None in
    let none : first_reason (reasons d) ≡ None = subst P e o in
    record {
      rooted = no_reason closed.C3 (has_no_root S n)
          (no_reason_at (reasons d) 1 (reason_where closed.C3 (has_no_root S n)) none refl);
      readable = no_reason closed.C10 (is_unread S d.what)
          (no_reason_at (reasons d) 3 (reason_where closed.C10 (is_unread S d.what)) none refl);
      fields = no_reason_at (reasons d) 5 (fields_reason S (is_struct d.what) (line_above S n) d.fields) none refl;
    }

-- What a field without a reason says of its type and template.
record FieldFacts (S : Schema) (in_struct : Bool) (f : Field) : Type 0 where
  kind : kind_reason S in_struct f ≡ None
  template : template_reason S in_struct f ≡ None

field_facts : (S : Schema) (in_struct : Bool) (earlier : List Field) (f : Field)
    → field_reason S in_struct earlier f ≡ None → FieldFacts S in_struct f
unfolding field_reason
field_facts S in_struct earlier f e =
    let r1 = no_first (kind_reason S in_struct f) _ e in
    let r2 = no_first (template_reason S in_struct f) _ r1.1 in
    record { kind = r1.0; template = r2.0 }

each_facts : (S : Schema) (in_struct : Bool) (earlier fields : List Field)
    → fields_reason S in_struct earlier fields ≡ None → EachField (FieldFacts S in_struct) fields
each_facts S in_struct earlier [] e = tt
each_facts S in_struct earlier (f ∷ fields) e =
    let r1 = no_first (field_reason S in_struct earlier f) _ e in
    let r2 = no_first (fields_reason S in_struct (earlier ++ f ∷ []) fields) _ r1.1 in
    (field_facts S in_struct earlier f r1.0, each_facts S in_struct (earlier ++ f ∷ []) fields r2.0)

-- what an open type uses is open
pub open_used : (S : Schema) (n m : ℕ) → IsOpen S n → Contains (uses S n) m → IsOpen S m
open_used S n m o c to walk = o to (Further n m to c walk)

open_by_name : (S : Schema) (n m : ℕ) (name : Name) → IsOpen S n → named S name ≡ Some m → Contains (uses S n) m
    → (is_own_template name ≡ false) × (find S name ≡ Some m) × IsOpenType S m
open_by_name S n m name o e c = let r = named_found S name m e in
    (r.0, r.1, (find_within S name m r.1, open_used S n m o c))

-- the template of a field whose type is generic
template_good : (S : Schema) (in_struct : Bool) (n : ℕ) (f : Field) (kind : ℕ) → IsOpen S n
    → named S f.kind ≡ Some kind → is_generic S kind ≡ true
    → template_reason S in_struct f ≡ None → ((m : ℕ) → Contains (uses_of_field S f) m → Contains (uses S n) m)
    → TemplateGood S in_struct f.template
template_good S in_struct n f kind o e g reason used = by f.template refl needed
  where
    needed : generic_template_reason S in_struct f.template ≡ None
    needed =
        let P : Option ℕ → Type 0 = λ x. option_map_or (λ number.
        if is_generic S number then generic_template_reason S in_struct f.template
        else if option_map_or is_reference (what_at S number) false
        then reference_template_reason S in_struct f.template
        else None) x None ≡ None in
        let at : P (Some kind) = subst P e reason in
        let Q : Bool → Type 0 = λ b. (if b then generic_template_reason S in_struct f.template
        else if option_map_or is_reference (what_at S kind) false then reference_template_reason S in_struct f.template
        else None) ≡ None in
        subst Q g at

    by : (t : Option Name) → f.template ≡ t → generic_template_reason S in_struct t ≡ None → TemplateGood S in_struct t
    by None et h = absurd (cc)
    by (Some name) et h =
        pick (type_named S in_struct (λ number. not (is_generic S number)) name (not_false _ (no_reason closed.C8 _ h)))
      where
        pick : ((in_struct ≡ true) × (is_own_template name ≡ true)) ⊎
            ((m : ℕ) × (named S name ≡ Some m) × (not (is_generic S m) ≡ true))
            → TemplateGood S in_struct (Some name)
        pick (inl a) = inl a
        pick (inr a) =
            let in_template : named_template S f ≡ Some a.0 = ap (option_and_then (named S)) et ∙ a.1 in
            let P : Option ℕ → Type 0 = λ x. Contains (option_map_or (λ kind. option_to_list (Some kind) ++ (if is_generic S kind then option_to_list (named_template S f) else [])) x []) a.0 in
            let Q : Bool → Type 0 = λ b. Contains (kind ∷ (if b then option_to_list (named_template S f) else [])) a.0 in
            let R : Option ℕ → Type 0 = λ x. Contains (kind ∷ option_to_list x) a.0 in
            let here : Contains (kind ∷ a.0 ∷ []) a.0 = (1, omega arith, refl) in
            let c : Contains (uses_of_field S f) a.0 = subst P (sym e) (subst Q (sym g) (subst R (sym in_template) here)) in
            let r = open_by_name S n a.0 name o a.1 (used a.0 c) in
            inr (a.0, r.0, r.1, r.2, not_true (is_generic S a.0) a.2)

field_good : (S : Schema) (in_struct : Bool) (n : ℕ) (f : Field) → IsOpen S n → FieldFacts S in_struct f
    → ((m : ℕ) → Contains (uses_of_field S f) m → Contains (uses S n) m) → FieldGood S in_struct f
field_good S in_struct n f o facts used =
    by (type_named S in_struct (λ number. not (has_block S number)) f.kind
    (not_false _ (no_reason closed.C1 _ facts.kind)))
  where
    by : ((in_struct ≡ true) × (is_own_template f.kind ≡ true)) ⊎
        ((m : ℕ) × (named S f.kind ≡ Some m) × (not (has_block S m) ≡ true))
        → FieldGood S in_struct f
    by (inl a) = inl a
    by (inr a) =
        let P : Option ℕ → Type 0 = λ x. Contains (option_map_or (λ kind. option_to_list (Some kind) ++ (if is_generic S kind then option_to_list (named_template S f) else [])) x []) a.0 in
        let here : Contains (a.0 ∷ (if is_generic S a.0 then option_to_list (named_template S f) else [])) a.0 = (0, omega arith, refl) in
        let c : Contains (uses_of_field S f) a.0 = subst P (sym a.1) here in
        let r = open_by_name S n a.0 f.kind o a.1 (used a.0 c) in
        inr (a.0, r.0, r.1, r.2, λ g. template_good S in_struct n f a.0 o a.1 g facts.template used)

-- a declaration of a number below the length is there
pub declared : (S : Schema) (n : ℕ) → n < length S → (d : Declaration) × (slice_get S n ≡ Some d)
declared [] n l = absurd (omega arith)
declared (d ∷ ds) zero l = (d, refl)
declared (d ∷ ds) (suc n) l = declared ds n (omega arith)

-- the own fields of an open type
pub fields_good : (S : Schema) (n : ℕ) (d : Declaration) → slice_get S n ≡ Some d → IsOpen S n
    → EachField (FieldGood S (is_struct d.what)) d.fields
unfolding uses
fields_good S n d e o =
    let facts = own_facts S n d e (o n (Here n)) in
    let known = each_facts S (is_struct d.what) (line_above S n) d.fields facts.fields in
    let at : fields_of S n ≡ d.fields = ap (λ (x : Option Declaration). option_map_or (λ d. d.fields) x []) e in
    let F : Field → Type 0 = λ f. (m : ℕ) → Contains (uses_of_field S f) m → Contains (uses S n) m in
    let used : EachField F d.fields = each_map (λ f h m c.
    let P : List Field → Type 0 = λ fs. Contains (flat_map (uses_of_field S) fs) m in
    Contains-append_right (option_to_list (parent S n)) (flat_map (uses_of_field S) (fields_of S n)) m
    (subst P (sym at) (h m c))) d.fields (each_used S d.fields) in
    each_map (λ f h. field_good S (is_struct d.what) n f o h.0 h.1) d.fields
    (each_both (FieldFacts S (is_struct d.what)) F d.fields known used)
