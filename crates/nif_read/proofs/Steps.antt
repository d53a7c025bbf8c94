-- The steps of a walk over the children of the root.
use Rattle.std.proofs.Common.{◌≡◌, ℕ, ◌+◌, List, [], ◌∷◌, ◌++◌, Option, Some, None, refl, sym, ap, ◌∙◌, subst}
use Rattle.std.specs.Prelude.{map}
use Rattle.std.specs.Option.{option_or, option_map}
use Rattle.std.specs.List.{filter_map, AllZip}
use Rattle.std.proofs.lemmas.List.Elements.{filter_map-append}
use Rattle.nif_text.specs.Tree.{Tree, name_of, attrs_of}
use Rattle.nif_schema.specs.Declaration.{Declaration}
use Rattle.nif_schema.specs.Schema.{Schema}
use Rattle.nif_schema.specs.declared.faults.SchemaFault.{SchemaFault}
use Rattle.nif_attributes.specs.declared.tokens.Expanded.{Expanded}
use Rattle.nif_attributes.specs.declared.tokens.Attribute.{Attribute}
use Rattle.nif_read.specs.declared.forms.Form.{Form}
use Rattle.nif_attributes.specs.Attributes.{Text}
use Rattle.nif_read.specs.Declarations.{form_of, name_in, IsDeclaration}
use Rattle.nif_read.specs.Schemas.{fault_at, first_fault, names_by, declared_by, declaring, AreDeclared}
use Rattle.nif_read.specs.Kept.{StepAs}
use Rattle.nif_read.proofs.Zips.{zip_push}

-- the first fault is here
pub fault_here : (R : Attribute → Text → Expanded) (names : List Text) (n : ℕ) (child : Tree) (rest : List Tree) (f : SchemaFault)
    → fault_at R names n child ≡ Some f → first_fault R names n (child ∷ rest) ≡ Some f
fault_here R names n child rest f e = ap (λ o. option_or o (first_fault R (names ++ names_by child) (n + 1) rest)) e

-- or it is further on
pub fault_later : (R : Attribute → Text → Expanded) (names : List Text) (n : ℕ) (child : Tree) (rest : List Tree)
    → fault_at R names n child ≡ None → first_fault R names n (child ∷ rest) ≡ first_fault R (names ++ names_by child) (n + 1) rest
fault_later R names n child rest e = ap (λ o. option_or o (first_fault R (names ++ names_by child) (n + 1) rest)) e

map-snoc : (old : Schema) (d : Declaration) → map (λ d. d.name) (old ++ d ∷ []) ≡ map (λ d. d.name) old ++ d.name ∷ []
map-snoc [] d = refl
map-snoc (x ∷ old) d = ap (λ names. x.name ∷ names) (map-snoc old d)

append-none : (names : List Text) → names ++ [] ≡ names
append-none [] = refl
append-none (x ∷ names) = ap (λ more. x ∷ more) (append-none names)

names-as : (R : Attribute → Text → Expanded) (child : Tree) (old new : Schema) (form : Option Form) → StepAs R child old new form
    → map (λ d. d.name) new ≡ map (λ d. d.name) old ++ declared_by form (name_in (attrs_of child))
names-as R child old new None e = ap (map (λ d. d.name)) e ∙ sym (append-none (map (λ d. d.name) old))
names-as R child old new (Some form) step =
    ap (map (λ d. d.name)) step.2 ∙ map-snoc old step.0
    ∙ ap (λ name. map (λ d. d.name) old ++ declared_by (Some form) name) (sym step.1.name)

-- the names of the next schema
pub names-step : (R : Attribute → Text → Expanded) (child : Tree) (old new : Schema) → StepAs R child old new (form_of (name_of child))
    → map (λ d. d.name) new ≡ map (λ d. d.name) old ++ names_by child
unfolding names_by
names-step R child old new step = names-as R child old new (form_of (name_of child)) step

abbrev entry_of : Tree → Option (Form × Tree)
entry_of child = option_map (λ form. (form, child)) (form_of (name_of child))

declaring-snoc : (children : List Tree) (child : Tree) → declaring (children ++ child ∷ []) ≡ declaring children ++ declaring (child ∷ [])
unfolding declaring
declaring-snoc children child = filter_map-append entry_of children (child ∷ [])

abbrev entries : Option Form → Tree → List (Form × Tree)
entries None child = []
entries (Some form) child = (form, child) ∷ []

declaring-one : (child : Tree) → declaring (child ∷ []) ≡ entries (form_of (name_of child)) child
unfolding declaring
declaring-one child = elim (form_of (name_of child)) as (λ o. filter_map (λ (c : Tree). option_map (λ form. (form, c)) o) (child ∷ []) ≡ entries o child) [ None ↦ refl | Some form ↦ refl ]

append_nil : {A : Type 0} (xs : List A) → xs ++ [] ≡ xs
append_nil [] = refl
append_nil (x ∷ xs) = ap (λ ys. x ∷ ys) (append_nil xs)

declared-as : (R : Attribute → Text → Expanded) (done : List (Form × Tree)) (child : Tree) (old new : Schema) (form : Option Form)
    → AllZip (λ entry. IsDeclaration R entry.0 entry.1) done old → StepAs R child old new form
    → AllZip (λ entry. IsDeclaration R entry.0 entry.1) (done ++ entries form child) new
declared-as R done child old new None so_far e =
    let P : List (Form × Tree) → Type 0 = λ xs. AllZip (λ entry. IsDeclaration R entry.0 entry.1) xs new in
    let Q : Schema → Type 0 = λ s. AllZip (λ entry. IsDeclaration R entry.0 entry.1) done s in
    subst P (sym (append_nil done)) (subst Q (sym e) so_far)
declared-as R done child old new (Some form) so_far step =
    let Q : Schema → Type 0 = λ s. AllZip (λ entry. IsDeclaration R entry.0 entry.1) (done ++ (form, child) ∷ []) s in
    subst Q (sym step.2) (zip_push (λ entry. IsDeclaration R entry.0 entry.1) done old (form, child) step.0 so_far step.1)

-- the declarations of one more child
pub declared-step : (R : Attribute → Text → Expanded) (children : List Tree) (child : Tree) (old new : Schema)
    → AreDeclared R children old → StepAs R child old new (form_of (name_of child)) → AreDeclared R (children ++ child ∷ []) new
declared-step R children child old new so_far step =
    let P : List (Form × Tree) → Type 0 = λ xs. AllZip (λ entry. IsDeclaration R entry.0 entry.1) xs new in
    subst P (sym (declaring-snoc children child ∙ ap (λ more. declaring children ++ more) (declaring-one child)))
    (declared-as R (declaring children) child old new (form_of (name_of child)) so_far step)
