-- One value, by what it is.
use Rattle.std.proofs.Common.{◌≡◌, ℕ, zero, suc, Bool, List, ◌++◌, Option, Ok, Err, refl, sym, ◌∙◌, ap, subst}
use Rattle.std.specs.declared.result.Result.{Result}
use Rattle.nif_base.specs.Node.{Node}
use Rattle.nif_stream.specs.Taking.{place_of}
use Rattle.nif_schema.specs.Declaration.{Field}
use Rattle.nif_schema.specs.Schema.{Schema, line}
use Rattle.nif_layout.specs.Context.{Context}
use Rattle.nif_layout.specs.Earlier.{Env}
use Rattle.nif_layout.specs.Kind as kind
use Rattle.nif_layout.specs.Form.{Form, One, form_of}
use Rattle.nif_layout.specs.Fault as plain
use Rattle.nif_layout.specs.Shape.{Shape, FormShape}
use Rattle.nif_layout.specs.Fails.{Fails, FormShapeFails}
use Rattle.nif_scope.specs.declared.settings.Setting.{Setting}
use Rattle.nif_scope.specs.declared.forms.Kind.{Kind}
use Rattle.nif_scope.specs.declared.forms.Kind.TheVariants.{Group}
use Rattle.nif_scope.specs.Scope.{IsSetting, IsKnown, context_in, kind_of}
use Rattle.nif_scope.specs.Keeping.{IsSingle}
use Rattle.nif_scope.specs.Told as kept
use Rattle.nif_scope.specs.Told.{member_told}
use Rattle.nif_scope.proofs.Growing.{single_told}
use Rattle.nif_decode.specs.declared.faults.ValueFault.{ValueFault}
use Rattle.nif_decode.specs.Faults.{OfValue}
use Rattle.nif_decode.specs.Answers.{Stand, IsReady, Ceases, Answers}
use Rattle.nif_decode.specs.Groups.{GroupShape, GroupStops, ValueShape, ValueStops}
use Rattle.nif_decode.proofs.Leaving.{went_same, some_building, stops_here}

-- what a reader of one value answers, and of the value of a field
abbrev pub OneAnswers : {S : Type 0} → (S → Option (List ℕ)) → (S → S → Type 0) → (S → ℕ) → Schema → Context → ℕ → kind.Kind → Stand S → Stand S → Result (Unit {0}) ValueFault → Type 0
OneAnswers left still faults schema C d of old new result = Answers left still faults C.order (Shape schema C d of) (Fails schema C d of) kept.told old new result

abbrev pub FormAnswers : {S : Type 0} → (S → Option (List ℕ)) → (S → S → Type 0) → (S → ℕ) → Schema → Context → ℕ → Form → Bool → Stand S → Stand S → Result (Unit {0}) ValueFault → Type 0
FormAnswers left still faults schema C d form asked old new result = Answers left still faults C.order (FormShape schema C d form) (FormShapeFails schema C d form) (member_told asked) old new result

-- one value is of a kind
pub of_kind : {S : Type 0} (left : S → Option (List ℕ)) (still : S → S → Type 0) (faults : S → ℕ) (schema : Schema) (C : Context) (d : ℕ) (of is : Kind) (old new : Stand S) (result : Result (Unit {0}) ValueFault)
    → of ≡ is → OneAnswers left still faults schema C d (kind_of schema is) old new result → OneAnswers left still faults schema C d (kind_of schema of) old new result
of_kind left still faults schema C d of is old new result e h = subst (λ k. OneAnswers left still faults schema C d (kind_of schema k) old new result) (sym e) h

-- in a group, in whose members groups lie one less deep
pub of_group : {S : Type 0} (left : S → Option (List ℕ)) (still : S → S → Type 0) (faults : S → ℕ) (at : Setting) (d inner : ℕ) (old new : Stand S) (result : Result (Unit {0}) ValueFault)
    → d ≡ suc inner → Answers left still faults (context_in at).order (GroupShape at inner) (GroupStops at inner) kept.told old new result
    → OneAnswers left still faults at.schema.now (context_in at) d (kind.Group (line at.schema.now at.number) at.template at.arg) old new result
of_group left still faults at d inner old new result e h =
    subst (λ d. OneAnswers left still faults at.schema.now (context_in at) d (kind.Group (line at.schema.now at.number) at.template at.arg) old new result) (sym e) h

-- groups lie too deep
pub deep_ceases : {S : Type 0} (left : S → Option (List ℕ)) (still : S → S → Type 0) (faults : S → ℕ) (schema : Schema) (C : Context) (d : ℕ) (of : Kind) (number : ℕ) (template : Option ℕ) (arg : ℕ) (k place : ℕ) (old : Stand S)
    → IsReady old k → of ≡ Group number template arg → d ≡ zero → place ≡ place_of old.taker
    → Ceases left still faults (Fails schema C d (kind_of schema of)) old old (OfValue (plain.TooDeep place))
deep_ceases left still faults schema C d of number template arg k place old r is none there =
    subst (λ k. Ceases left still faults (Fails schema C d (kind_of schema k)) old old (OfValue (plain.TooDeep place))) (sym is)
    (subst (λ d. Ceases left still faults (Fails schema C d (kind_of schema (Group number template arg))) old old (OfValue (plain.TooDeep place))) (sym none)
    (subst (λ p. Ceases left still faults (Fails schema C zero (kind_of schema (Group number template arg))) old old (OfValue (plain.TooDeep p))) (sym there) (record {
      went = went_same still faults old.taker;
      building = some_building old k r.room;
      stops = stops_here left faults (Fails schema C zero (kind_of schema (Group number template arg))) old (plain.TooDeep (place_of old.taker)) r.taker.ahead (λ total. refl) (λ bytes. refl);
    })))

-- the setting of a group inside
pub inner_setting : (at : Setting) (of : Kind) (number : ℕ) (template : Option ℕ) (arg : ℕ) → IsSetting at → of ≡ Group number template arg → IsKnown at.schema.now of
    → IsSetting (record at { number = number; template = template; arg = arg })
inner_setting at of number template arg s e known =
    let k : IsKnown at.schema.now (Group number template arg) = subst (λ k. IsKnown at.schema.now k) e known in
    record { is_open = k.0; template = k.1; owner = s.owner }

-- ---- the value of a field

-- one value is no array
is_single : (schema : Schema) (C : Context) (d : ℕ) (of : kind.Kind) (node : Node) → Shape schema C d of node → IsSingle node
is_single schema C d (kind.Number width little) node h = subst (λ n. IsSingle n) (sym h.1) tt
is_single schema C d kind.Line node h = subst (λ n. IsSingle n) (sym h.1) tt
is_single schema C d (kind.Ref strong wanted) node h = subst (λ n. IsSingle n) (sym h.1) tt
is_single schema C d kind.Text node h = subst (λ n. IsSingle n) (sym h.1) tt
is_single schema C zero (kind.Group fields template arg) node h = absurd h
is_single schema C (suc d) (kind.Group fields template arg) node h = subst (λ n. IsSingle n) (sym h.1) tt
is_single schema C d kind.Unknown node h = absurd h

-- the value of a field is one value
pub as_one : {S : Type 0} (left : S → Option (List ℕ)) (still : S → S → Type 0) (faults : S → ℕ) (schema : Schema) (C : Context) (d : ℕ) (of : kind.Kind) (asked : Bool) (old new : Stand S) (result : Result (Unit {0}) ValueFault)
    → OneAnswers left still faults schema C d of old new result → FormAnswers left still faults schema C d (One of) asked old new result
as_one left still faults schema C d of asked old new (Ok u) h = record {
  node = h.node;
  is = h.is;
  goes = h.goes;
  built = h.built;
  told = h.told ∙ ap (λ x. old.told ++ x) (sym (single_told asked h.node (is_single schema C d of h.node h.is)));
}
as_one left still faults schema C d of asked old new (Err fault) h = record { went = h.went; building = h.building; stops = h.stops }

-- the value of a field has a form
pub of_form : {S : Type 0} (left : S → Option (List ℕ)) (still : S → S → Type 0) (faults : S → ℕ) (at : Setting) (d : ℕ) (E : Env) (f : Field) (form : Form) (asked asks : Bool) (old new : Stand S) (result : Result (Unit {0}) ValueFault)
    → form_of at.schema.now (context_in at) at.template at.arg E f ≡ form → asked ≡ asks → FormAnswers left still faults at.schema.now (context_in at) d form asked old new result
    → Answers left still faults (context_in at).order (ValueShape at d E f) (ValueStops at d E f) (member_told asks) old new result
of_form left still faults at d E f form asked asks old new result e same h =
    subst (λ form. FormAnswers left still faults at.schema.now (context_in at) d form asks old new result) (sym e)
    (subst (λ asked. FormAnswers left still faults at.schema.now (context_in at) d form asked old new result) same h)
