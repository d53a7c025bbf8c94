-- Each tree has an outcome, since each text is an expression or is none.
use Rattle.std.proofs.Common.{◌≡◌, ℕ, ◌+◌, ◌≤◌, Bool, true, false, cond, List, [], ◌∷◌, ◌++◌, Option, Some, None, refl, sym, ◌∙◌, subst, length, arith, ◌⊎◌, inl, inr, nat_le}
use Rattle.std.specs.Prelude.{◌||◌, codes}
use Rattle.std.specs.Str.{bytes_eq}
use Rattle.nif_schema.specs.declared.faults.SchemaFault.TheVariants as faults
use Rattle.std.specs.Option.{option_map, option_or, is_none}
use Rattle.std.specs.List.{cons_option, list_any, AllByRecursion}
use Rattle.std.proofs.lemmas.Bool.Decides.{nat_tests}
use Rattle.nif_text.specs.Tree as text
use Rattle.nif_text.specs.Tree.{name_of, attrs_of, children_of}
use Rattle.nif_schema.specs.Expression.{Tree}
use Rattle.nif_schema.specs.Declaration.{Formula, Read, Bad, Field, Declaration}
use Rattle.nif_schema.specs.Schema.{Schema}
use Rattle.nif_schema.specs.declared.faults.SchemaFault.{SchemaFault}
use Rattle.nif_expr.specs.Grammar.{IsExpression}
use Rattle.nif_attributes.specs.declared.tokens.Expanded.{Expanded}
use Rattle.nif_attributes.specs.declared.tokens.Attribute.{Attribute}
use Rattle.nif_attributes.specs.declared.tokens.Attribute.TheVariants as the
use Rattle.nif_read.specs.declared.forms.Form.{Form}
use Rattle.nif_attributes.specs.Attributes.{Text, text_of}
use Rattle.nif_attributes.specs.Texts.{IsFormula, Either, plain, bound_of, exact_of}
use Rattle.nif_read.specs.Fields.{IsField, width_of, is_nameless}
use Rattle.nif_read.specs.Declarations.{form_of, name_in, fields_in, members_in, what_of, has_nameless, IsDeclaration}
use Rattle.nif_read.specs.Schemas.{declaring, Declares, DeclaresNot, fault_of, fault_at, fault_as, fault_under, first_fault, names_by, replaced_in}
use Rattle.nif_read.proofs.Zips.{zip_some}

-- each text is an expression or is none
abbrev pub AreDecided : Type 0
AreDecided = (text : List ℕ) → ((tree : Tree) × IsExpression text tree) ⊎ ((tree : Tree) → IsExpression text tree → ⊥)

formula-by : AreDecided → (text : Expanded) (long : Bool) → text.too_long ≡ long → (f : Formula) × IsFormula text f
formula-by decided text true long = (Bad, λ tree h. let e : true ≡ false = sym long ∙ h.whole in absurd (cc))
formula-by decided text false whole = by (nat_le (length text.text) 4096) refl
  where
    read : length text.text ≤ 4096 → ((tree : Tree) × IsExpression text.text tree) ⊎ ((tree : Tree) → IsExpression text.text tree → ⊥) → (f : Formula) × IsFormula text f
    read short (inl is) = (Read is.0, record { whole = whole; short = short; read = is.1 })
    read short (inr none) = (Bad, λ tree h. none tree h.read)

    by : (short : Bool) → nat_le (length text.text) 4096 ≡ short → (f : Formula) × IsFormula text f
    by true e = let short : length text.text ≤ 4096 = grind (arith, nat_tests) in read short (decided text.text)
    by false e = (Bad, λ tree h. let short = h.short in absurd (grind (arith, nat_tests)))

either-some : AreDecided → (text : Option Expanded) → (f : Option Formula) × Either IsFormula text f
either-some decided None = (None, tt)
either-some decided (Some text) = let f = formula-by decided text text.too_long refl in (Some f.0, f.1)

plain-some : (text : Option Expanded) → is_none text ≡ false → (name : Text) × (plain text ≡ Some name)
plain-some None e = absurd (cc)
plain-some (Some text) e = (text.text, refl)

or-left : (a b : Bool) → (a || b) ≡ false → a ≡ false
or-left true b e = e
or-left false b e = refl

or-right : (a b : Bool) → (a || b) ≡ false → b ≡ false
or-right true b e = absurd (cc)
or-right false b e = e

named : (text : Attribute → Option Expanded) → is_nameless text ≡ false → (is_none (text the.Name) || is_none (text the.Type)) ≡ false
unfolding is_nameless
named text e = e

field-some : AreDecided → (text : Attribute → Option Expanded) → is_nameless text ≡ false → (f : Field) × IsField text f
field-some decided text e =
    let name = plain-some (text the.Name) (or-left (is_none (text the.Name)) (is_none (text the.Type)) (named text e)) in
    let kind = plain-some (text the.Type) (or-right (is_none (text the.Name)) (is_none (text the.Type)) (named text e)) in
    let arg = either-some decided (text the.Arg) in
    let length = either-some decided (text the.Length) in
    let width = either-some decided (width_of text) in
    let condition = either-some decided (text the.Cond) in
    let vercond = either-some decided (text the.Vercond) in (
      record {
        name = name.0;
        kind = kind.0;
        template = plain (text the.Template);
        arg = arg.0;
        length = length.0;
        width = width.0;
        cond = condition.0;
        vercond = vercond.0;
        since = option_map bound_of (text the.Since);
        until = option_map bound_of (text the.Until);
        user = option_map exact_of (text the.Userver);
        bs = option_map exact_of (text the.Userver2);
        only = plain (text the.OnlyT);
        exclude = plain (text the.ExcludeT);
      },
      record {
        name = name.1;
        kind = kind.1;
        template = refl;
        arg = arg.1;
        length = length.1;
        width = width.1;
        cond = condition.1;
        vercond = vercond.1;
        since = refl;
        until = refl;
        user = refl;
        bs = refl;
        only = refl;
        exclude = refl;
      },
    )

fields-some : AreDecided → (R : Attribute → Text → Expanded) (children : List text.Tree)
    → list_any (λ child. is_nameless (text_of R (attrs_of child))) children ≡ false
    → AllByRecursion (λ child. (f : Field) × IsField (text_of R (attrs_of child)) f) children
fields-some decided R [] e = tt
fields-some decided R (child ∷ children) e = (
  field-some decided (text_of R (attrs_of child)) (or-left (is_nameless (text_of R (attrs_of child))) (list_any (λ c. is_nameless (text_of R (attrs_of c))) children) e),
  fields-some decided R children (or-right (is_nameless (text_of R (attrs_of child))) (list_any (λ c. is_nameless (text_of R (attrs_of c))) children) e),
)

no-nameless : (R : Attribute → Text → Expanded) (form : Form) (element : text.Tree) → has_nameless R form element ≡ false
    → list_any (λ child. is_nameless (text_of R (attrs_of child))) (fields_in form (children_of element)) ≡ false
unfolding has_nameless
no-nameless R form element e =
    or-left (list_any (λ child. is_nameless (text_of R (attrs_of child))) (fields_in form (children_of element)))
    (list_any (λ child. is_none (name_in (attrs_of child))) (members_in form (children_of element))) e

under-none : (name : Option Text) (earlier : List Text) (number : ℕ) (nameless : Bool) → fault_under name earlier number nameless ≡ None
    → (given : Text) × (name ≡ Some given) × (nameless ≡ false)
under-none None earlier number nameless e = absurd (cc)
under-none (Some name) earlier number nameless e = by (list_any (λ other. bytes_eq name other) earlier) nameless e
  where
    by : (taken lacking : Bool) → cond taken (Some (faults.DuplicateName name)) (cond lacking (Some (faults.MissingName number)) None) ≡ None → (given : Text) × (Some name ≡ Some given) × (lacking ≡ false)
    by true lacking h = absurd (cc)
    by false true h = absurd (cc)
    by false false h = (name, refl, refl)

declaration-some : AreDecided → (R : Attribute → Text → Expanded) (earlier : List Text) (number : ℕ) (element : text.Tree) (form : Form)
    → fault_as R earlier number element (Some form) ≡ None → (d : Declaration) × IsDeclaration R form element d
declaration-some decided R earlier number element form e =
    let parts = under-none (name_in (attrs_of element)) earlier number (has_nameless R form element) e in
    let fields = zip_some (λ child. IsField (text_of R (attrs_of child))) (fields_in form (children_of element))
    (fields-some decided R (fields_in form (children_of element)) (no-nameless R form element parts.2))
    in (
      record { name = parts.0; what = what_of form (attrs_of element) (children_of element); fields = fields.0 },
      record { name = parts.1; what = refl; fields = fields.1 },
    )

or-first : {A : Type 0} (a b : Option A) → option_or a b ≡ None → a ≡ None
or-first None b e = refl
or-first (Some a) b e = e

or-second : {A : Type 0} (a b : Option A) → option_or a b ≡ None → b ≡ None
or-second None b e = e
or-second (Some a) b e = absurd (cc)

abbrev entries : Option Form → text.Tree → List (Form × text.Tree) → List (Form × text.Tree)
entries None child more = more
entries (Some form) child more = (form, child) ∷ more

cons-as : (o : Option Form) (child : text.Tree) (more : List (Form × text.Tree)) → cons_option (option_map (λ form. (form, child)) o) more ≡ entries o child more
cons-as None child more = refl
cons-as (Some form) child more = refl

declaring-cons : (child : text.Tree) (children : List text.Tree) → declaring (child ∷ children) ≡ entries (form_of (name_of child)) child (declaring children)
unfolding declaring
declaring-cons child children = cons-as (form_of (name_of child)) child (declaring children)

at-as : (R : Attribute → Text → Expanded) (names : List Text) (n : ℕ) (child : text.Tree) → fault_at R names n child ≡ None
    → fault_as R names n child (form_of (name_of child)) ≡ None
unfolding fault_at
at-as R names n child e = e

entries-some : AreDecided → (R : Attribute → Text → Expanded) (names : List Text) (n : ℕ) (child : text.Tree) (more : List (Form × text.Tree)) (form : Option Form)
    → fault_as R names n child form ≡ None
    → AllByRecursion (λ entry. (d : Declaration) × IsDeclaration R entry.0 entry.1 d) more
    → AllByRecursion (λ entry. (d : Declaration) × IsDeclaration R entry.0 entry.1 d) (entries form child more)
entries-some decided R names n child more None e rest = rest
entries-some decided R names n child more (Some form) e rest = (declaration-some decided R names n child form e, rest)

no-entries : (R : Attribute → Text → Expanded) → AllByRecursion (λ entry. (d : Declaration) × IsDeclaration R entry.0 entry.1 d) (declaring [])
unfolding declaring
no-entries R = tt

walk-some : AreDecided → (R : Attribute → Text → Expanded) (names : List Text) (n : ℕ) (children : List text.Tree)
    → first_fault R names n children ≡ None
    → AllByRecursion (λ entry. (d : Declaration) × IsDeclaration R entry.0 entry.1 d) (declaring children)
walk-some decided R names n [] e = no-entries R
walk-some decided R names n (child ∷ children) e =
    let here = fault_at R names n child in
    let rest = first_fault R (names ++ names_by child) (n + 1) children in
    subst (λ (xs : List (Form × text.Tree)). AllByRecursion (λ entry. (d : Declaration) × IsDeclaration R entry.0 entry.1 d) xs) (sym (declaring-cons child children))
    (entries-some decided R names n child (declaring children) (form_of (name_of child)) (at-as R names n child (or-first here rest e))
    (walk-some decided R (names ++ names_by child) (n + 1) children (or-second here rest e)))

sound-root : (root : text.Tree) → fault_of root ≡ None → first_fault (replaced_in root) [] 0 (children_of root) ≡ None
unfolding fault_of
sound-root root e = by (bytes_eq (name_of root) (codes "niftoolsxml")) e
  where
    by : (b : Bool) → cond b (first_fault (replaced_in root) [] 0 (children_of root)) (Some faults.NoRoot) ≡ None → first_fault (replaced_in root) [] 0 (children_of root) ≡ None
    by true h = h
    by false h = absurd (cc)

-- a schema or a fault
pub some_outcome : AreDecided → (root : text.Tree) → ((schema : Schema) × Declares root schema) ⊎ ((fault : SchemaFault) × DeclaresNot root fault)
some_outcome decided root = by (fault_of root) refl
  where
    by : (f : Option SchemaFault) → fault_of root ≡ f → ((schema : Schema) × Declares root schema) ⊎ ((fault : SchemaFault) × DeclaresNot root fault)
    by (Some fault) e = inr (fault, e)
    by None e =
        let schema = zip_some (λ entry. IsDeclaration (replaced_in root) entry.0 entry.1) (declaring (children_of root))
        (walk-some decided (replaced_in root) [] 0 (children_of root) (sound-root root e))
        in
        inl (schema.0, record { sound = e; declared = schema.1 })
