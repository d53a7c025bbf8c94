-- What a child of the root does to a schema, and what the walk over all of them tells.
use Rattle.std.proofs.Common.{◌≡◌, ℕ, ◌+◌, ◌<◌, ◌≤◌, Bool, true, false, not, cond, List, [], ◌∷◌, ◌++◌, length, map, take, drop, get_or, Option, Some, None, Ok, Err, refl, sym, ap, ◌∙◌, subst, arith, length-append}
use Rattle.std.specs.Prelude.{OnOk, IfOk, IfErr, codes, ◌&&◌}
use Rattle.std.specs.List.{list_any}
use Rattle.std.specs.declared.result.Result.{Result}
use Rattle.std.specs.Option.{option_or}
use Rattle.std.specs.Str.{bytes_eq}
use Rattle.nif_text.specs.Tree.{Tree, name_of, attrs_of, children_of}
use Rattle.nif_text.specs.Documents.{Written}
use Rattle.nif_schema.specs.Schema.{Schema}
use Rattle.nif_schema.specs.declared.faults.SchemaFault.{SchemaFault}
use Rattle.nif_schema.specs.declared.faults.SchemaFault.TheVariants as faults
use Rattle.nif_attributes.specs.declared.tokens.Expanded.{Expanded}
use Rattle.nif_attributes.specs.declared.tokens.Attribute.{Attribute}
use Rattle.nif_read.specs.declared.forms.Form.{Form}
use Rattle.nif_attributes.specs.Attributes.{Text, replaced_by}
use Rattle.nif_attributes.specs.Tokens.{Group, ExpandAlike, has_refused}
use Rattle.nif_read.specs.Declarations.{form_of, name_in, has_nameless}
use Rattle.nif_read.specs.Schemas.{IsRefused, is_group, names_by, fault_under, fault_as, fault_at, fault_of, first_fault, group_fault, declaring, AreDeclared, Declares, replaced_in}
use Rattle.nif_read.specs.Kept.{StepAs, Stepped, IsFaultOf}
use Rattle.nif_read.proofs.Loops.{at, upto}
use Rattle.nif_read.proofs.Steps.{fault_later, names-step, declared-step}

abbrev names_of : Schema → List Text
names_of schema = map (λ d. d.name) schema

at-form : (R : Attribute → Text → Expanded) (names : List Text) (n : ℕ) (child : Tree) (form : Option Form) → form_of (name_of child) ≡ form
    → fault_at R names n child ≡ fault_as R names n child form
unfolding fault_at
at-form R names n child form e = ap (fault_as R names n child) e

-- a child steps by its form
pub steps : (R : Attribute → Text → Expanded) (n : ℕ) (child : Tree) (old new : Schema) (form : Option Form) (result : Result (Unit {0}) SchemaFault)
    → form_of (name_of child) ≡ form → OnOk result (fault_as R (names_of old) n child form ≡ None) → OnOk result (StepAs R child old new form)
    → OnOk result (Stepped R n child old new)
steps R n child old new form (Ok x) e sound step = record {
  sound = at-form R (names_of old) n child form e ∙ sound;
  step = subst (λ (o : Option Form). StepAs R child old new o) (sym e) step;
}
steps R n child old new form (Err f) e sound step = tt

-- or has the fault of its form
pub faults_at : (R : Attribute → Text → Expanded) (names : List Text) (n : ℕ) (child : Tree) (form : Option Form) (result : Result (Unit {0}) SchemaFault)
    → form_of (name_of child) ≡ form → IfErr result (IsFaultOf (fault_as R names n child form)) → IfErr result (IsFaultOf (fault_at R names n child))
faults_at R names n child form result e told =
    subst (λ (o : Option SchemaFault). IfErr result (IsFaultOf o)) (sym (at-form R names n child form e)) told

grows : (R : Attribute → Text → Expanded) (child : Tree) (old new : Schema) (form : Option Form) → StepAs R child old new form → length new ≤ length old + 1
grows R child old new None e = let same : length new ≡ length old = ap (λ (s : Schema). length s) e in omega arith
grows R child old new (Some form) step =
    let same : length new ≡ length (old ++ step.0 ∷ []) = ap (λ (s : Schema). length s) step.2 in omega (arith, length-append old (step.0 ∷ []))

pub declared-none : (R : Attribute → Text → Expanded) (schema : Schema) → schema ≡ [] → AreDeclared R [] schema
unfolding declaring
declared-none R [] e = tt
declared-none R (d ∷ schema) e = absurd (cc)

pub rest-step : (R : Attribute → Text → Expanded) (children : List Tree) (i : ℕ) (child : Tree) (old new : Schema)
    → i < length children → child ≡ get_or children i child → Stepped R i child old new
    → first_fault R [] 0 children ≡ first_fault R (names_of old) i (drop i children)
    → first_fault R [] 0 children ≡ first_fault R (names_of new) (i + 1) (drop (i + 1) children)
rest-step R children i child old new h e s so_far =
    so_far ∙ ap (first_fault R (names_of old) i) (at children i child h e)
    ∙ fault_later R (names_of old) i child (drop (i + 1) children) s.sound
    ∙ ap (λ names. first_fault R names (i + 1) (drop (i + 1) children)) (sym (names-step R child old new s.step))

pub done-step : (R : Attribute → Text → Expanded) (children : List Tree) (i : ℕ) (child : Tree) (old new : Schema)
    → i < length children → child ≡ get_or children i child → Stepped R i child old new
    → AreDeclared R (take i children) old → AreDeclared R (take (i + 1) children) new
done-step R children i child old new h e s so_far =
    subst (λ (xs : List Tree). AreDeclared R xs new) (sym (upto children i child h e)) (declared-step R (take i children) child old new so_far s.step)

pub few-step : (R : Attribute → Text → Expanded) (i n : ℕ) (child : Tree) (old new : Schema) → Stepped R n child old new → length old ≤ i → length new ≤ i + 1
few-step R i n child old new s few = omega (arith, grows R child old new (form_of (name_of child)) s.step)

-- the root has another name
pub other_root : (root : Tree) (n s : Text) (r : Bool) → n ≡ name_of root → s ≡ codes "niftoolsxml" → r ≡ not (bytes_eq n s) → r ≡ true → fault_of root ≡ Some faults.NoRoot
unfolding fault_of
other_root root n s r e f told other = by (bytes_eq (name_of root) (codes "niftoolsxml")) (sym (ap not (ap (λ x. bytes_eq x s) e ∙ ap (bytes_eq (name_of root)) f)) ∙ sym told ∙ other)
  where
    by : (b : Bool) → not b ≡ true → cond b (first_fault (replaced_in root) [] 0 (children_of root)) (Some faults.NoRoot) ≡ Some faults.NoRoot
    by true h = absurd (cc)
    by false h = refl

pub same_root : (root : Tree) (n s : Text) (r : Bool) → n ≡ name_of root → s ≡ codes "niftoolsxml" → r ≡ not (bytes_eq n s) → r ≡ false
    → fault_of root ≡ first_fault (replaced_in root) [] 0 (children_of root)
unfolding fault_of
same_root root n s r e f told same = by (bytes_eq (name_of root) (codes "niftoolsxml")) (sym (ap not (ap (λ x. bytes_eq x s) e ∙ ap (bytes_eq (name_of root)) f)) ∙ sym told ∙ same)
  where
    by : (b : Bool) → not b ≡ false → cond b (first_fault (replaced_in root) [] 0 (children_of root)) (Some faults.NoRoot) ≡ first_fault (replaced_in root) [] 0 (children_of root)
    by true h = refl
    by false h = absurd (cc)

-- a child that declares nothing leaves the schema as it was
pub passed : (R : Attribute → Text → Expanded) (n : ℕ) (child : Tree) (old : Schema) (result : Result (Unit {0}) SchemaFault)
    → form_of (name_of child) ≡ None → OnOk result (group_fault n child ≡ None) → OnOk result (Stepped R n child old old)
passed R n child old (Ok x) e sound = steps R n child old old None (Ok x) e sound refl
passed R n child old (Err f) e sound = tt

-- token groups that expand alike replace alike
pub alike : (one other : List Group) → ExpandAlike one other → replaced_by one ≡ replaced_by other
unfolding replaced_by
alike one other h = λ i. λ attribute text. h attribute text i

pub declares : (root : Tree) (R : Attribute → Text → Expanded) (children : List Tree) (result : Result Schema SchemaFault)
    → R ≡ replaced_in root → children ≡ children_of root → fault_of root ≡ first_fault (replaced_in root) [] 0 (children_of root)
    → IfOk result (λ _. first_fault R [] 0 children ≡ None) → IfOk result (λ schema. AreDeclared R children schema) → IfOk result (λ schema. Declares root schema)
declares root R children (Ok schema) e f told sound declared = record {
  sound = told ∙ sym (λ i. first_fault (e i) [] 0 (f i)) ∙ sound;
  declared = subst (λ (r : Attribute → Text → Expanded). AreDeclared r (children_of root) schema) e (subst (λ (xs : List Tree). AreDeclared R xs schema) f declared);
}
declares root R children (Err fault) e f told sound declared = tt

pub faults_in : (root : Tree) (R : Attribute → Text → Expanded) (children : List Tree) (result : Result Schema SchemaFault)
    → R ≡ replaced_in root → children ≡ children_of root → fault_of root ≡ first_fault (replaced_in root) [] 0 (children_of root)
    → IfErr result (IsFaultOf (first_fault R [] 0 children)) → IfErr result (IsFaultOf (fault_of root))
faults_in root R children result e f told h =
    subst (λ (o : Option SchemaFault). IfErr result (IsFaultOf o)) (sym (told ∙ sym (λ i. first_fault (e i) [] 0 (f i)))) h

-- the faults that a tree may have
abbrev IsOwn : SchemaFault → Type 0
IsOwn (faults.NotWritten after) = ⊥
IsOwn (faults.HeaderRole rule) = ⊥
IsOwn faults.SchemaTooLong = ⊥
IsOwn faults.NoMemory = ⊥
IsOwn _ = Unit {0}

abbrev AreOwn : Option SchemaFault → Type 0
AreOwn None = Unit {0}
AreOwn (Some fault) = IsOwn fault

under-own : (name : Option Text) (earlier : List Text) (n : ℕ) (nameless : Bool) → AreOwn (fault_under name earlier n nameless)
under-own None earlier n nameless = tt
under-own (Some name) earlier n nameless = by (list_any (bytes_eq name) earlier) nameless
  where
    by : (taken lacking : Bool) → AreOwn (cond taken (Some (faults.DuplicateName name)) (cond lacking (Some (faults.MissingName n)) None))
    by true lacking = tt
    by false true = tt
    by false false = tt

group-own : (n : ℕ) (child : Tree) → AreOwn (group_fault n child)
unfolding group_fault
group-own n child = by (is_group child && has_refused child)
  where
    by : (b : Bool) → AreOwn (cond b (Some (faults.BadToken n)) None)
    by true = tt
    by false = tt

as-own : (R : Attribute → Text → Expanded) (names : List Text) (n : ℕ) (child : Tree) (form : Option Form) → AreOwn (fault_as R names n child form)
as-own R names n child None = group-own n child
as-own R names n child (Some form) = under-own (name_in (attrs_of child)) names n (has_nameless R form child)

at-own : (R : Attribute → Text → Expanded) (names : List Text) (n : ℕ) (child : Tree) → AreOwn (fault_at R names n child)
unfolding fault_at
at-own R names n child = as-own R names n child (form_of (name_of child))

or-own : (a b : Option SchemaFault) → AreOwn a → AreOwn b → AreOwn (option_or a b)
or-own None b h k = k
or-own (Some f) b h k = h

first-own : (R : Attribute → Text → Expanded) (names : List Text) (n : ℕ) (children : List Tree) → AreOwn (first_fault R names n children)
first-own R names n [] = tt
first-own R names n (child ∷ children) =
    or-own (fault_at R names n child) (first_fault R (names ++ names_by child) (n + 1) children) (at-own R names n child) (first-own R (names ++ names_by child) (n + 1) children)

root-own : (root : Tree) → AreOwn (fault_of root)
unfolding fault_of
root-own root = by (bytes_eq (name_of root) (codes "niftoolsxml"))
  where
    by : (b : Bool) → AreOwn (cond b (first_fault (replaced_in root) [] 0 (children_of root)) (Some faults.NoRoot))
    by true = first-own (replaced_in root) [] 0 (children_of root)
    by false = tt

own-fault : (root : Tree) (fault : SchemaFault) → fault_of root ≡ Some fault → IsOwn fault
own-fault root fault e = subst (λ (o : Option SchemaFault). AreOwn o) e (root-own root)

refused-by : (bytes : List ℕ) (root : Tree) (fault : SchemaFault) → Written root bytes → IsFaultOf (fault_of root) fault → IsRefused bytes fault
refused-by bytes root (faults.NotWritten after) w h = absurd (own-fault root (faults.NotWritten after) h)
refused-by bytes root (faults.HeaderRole rule) w h = absurd (own-fault root (faults.HeaderRole rule) h)
refused-by bytes root faults.SchemaTooLong w h = absurd (own-fault root faults.SchemaTooLong h)
refused-by bytes root faults.NoMemory w h = tt
refused-by bytes root faults.NoRoot w h = (root, w, h)
refused-by bytes root (faults.MissingName element) w h = (root, w, h)
refused-by bytes root (faults.DuplicateName name) w h = (root, w, h)
refused-by bytes root (faults.BadToken element) w h = (root, w, h)

pub refused : (bytes : List ℕ) (root : Tree) (result : Result Schema SchemaFault) → Written root bytes
    → IfErr result (IsFaultOf (fault_of root)) → IfErr result (λ fault. IsRefused bytes fault)
refused bytes root (Ok schema) w h = tt
refused bytes root (Err fault) w h = refused-by bytes root fault w h
