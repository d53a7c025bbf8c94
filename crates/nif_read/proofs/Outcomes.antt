-- A tree has one outcome.
use Rattle.std.proofs.Common.{◌≡◌, ℕ, List, Option, Some, None, refl, sym, ap, ◌∙◌}
use Rattle.nif_text.specs.Tree as text
use Rattle.nif_text.specs.Tree.{name_of, attrs_of, children_of}
use Rattle.nif_schema.specs.Expression.{Tree}
use Rattle.nif_schema.specs.Declaration.{Formula, Read, Bad, Field, Declaration}
use Rattle.nif_schema.specs.Schema.{Schema}
use Rattle.nif_schema.specs.declared.faults.SchemaFault.{SchemaFault}
use Rattle.nif_expr.specs.Grammar.{IsExpression}
use Rattle.nif_attributes.specs.declared.tokens.Expanded.{Expanded}
use Rattle.nif_attributes.specs.declared.tokens.Attribute.{Attribute}
use Rattle.nif_attributes.specs.declared.tokens.Attribute.TheVariants as the
use Rattle.nif_read.specs.declared.forms.Form.{Form}
use Rattle.nif_attributes.specs.Attributes.{Text, text_of}
use Rattle.nif_attributes.specs.Texts.{IsFormula, Either}
use Rattle.nif_read.specs.Fields.{IsField, width_of}
use Rattle.nif_read.specs.Declarations.{fields_in, IsDeclaration}
use Rattle.nif_read.specs.Schemas.{declaring, Declares, DeclaresNot}
use Rattle.nif_read.proofs.Zips.{zip_one}

-- no text has two trees
abbrev pub OneTree : Type 0
OneTree = (text : List ℕ) (a b : Tree) → IsExpression text a → IsExpression text b → a ≡ b

some-inj : {A : Type 0} (x y : A) → Some x ≡ Some y → x ≡ y
some-inj x y e = cc

formula-one : OneTree → (text : Expanded) (a b : Formula) → IsFormula text a → IsFormula text b → a ≡ b
formula-one one text (Read s) (Read t) h k = ap (λ tree. Read tree) (one text.text s t h.read k.read)
formula-one one text (Read s) Bad h k = absurd (k s h)
formula-one one text Bad (Read t) h k = absurd (h t k)
formula-one one text Bad Bad h k = refl

either-one : OneTree → (text : Option Expanded) (a b : Option Formula) → Either IsFormula text a → Either IsFormula text b → a ≡ b
either-one one None None None h k = refl
either-one one None None (Some b) h k = absurd k
either-one one None (Some a) b h k = absurd h
either-one one (Some t) None b h k = absurd h
either-one one (Some t) (Some a) None h k = absurd k
either-one one (Some t) (Some a) (Some b) h k = ap (λ f. Some f) (formula-one one t a b h k)

field-one : OneTree → (text : Attribute → Option Expanded) (a b : Field) → IsField text a → IsField text b → a ≡ b
field-one one text a b h k =
    let name : a.name ≡ b.name = some-inj a.name b.name (sym h.name ∙ k.name) in
    let kind : a.kind ≡ b.kind = some-inj a.kind b.kind (sym h.kind ∙ k.kind) in
    let template : a.template ≡ b.template = sym h.template ∙ k.template in
    let arg : a.arg ≡ b.arg = either-one one (text the.Arg) a.arg b.arg h.arg k.arg in
    let length : a.length ≡ b.length = either-one one (text the.Length) a.length b.length h.length k.length in
    let width : a.width ≡ b.width = either-one one (width_of text) a.width b.width h.width k.width in
    let condition : a.cond ≡ b.cond = either-one one (text the.Cond) a.cond b.cond h.cond k.cond in
    let vercond : a.vercond ≡ b.vercond = either-one one (text the.Vercond) a.vercond b.vercond h.vercond k.vercond in
    let since : a.since ≡ b.since = sym h.since ∙ k.since in
    let until : a.until ≡ b.until = sym h.until ∙ k.until in
    let user : a.user ≡ b.user = sym h.user ∙ k.user in
    let bs : a.bs ≡ b.bs = sym h.bs ∙ k.bs in
    let only : a.only ≡ b.only = sym h.only ∙ k.only in
    let exclude : a.exclude ≡ b.exclude = sym h.exclude ∙ k.exclude in
    λ i. record {
      name = name i;
      kind = kind i;
      template = template i;
      arg = arg i;
      length = length i;
      width = width i;
      cond = condition i;
      vercond = vercond i;
      since = since i;
      until = until i;
      user = user i;
      bs = bs i;
      only = only i;
      exclude = exclude i;
    }

declaration-one : OneTree → (R : Attribute → Text → Expanded) (form : Form) (element : text.Tree) (a b : Declaration)
    → IsDeclaration R form element a → IsDeclaration R form element b → a ≡ b
declaration-one one R form element a b h k =
    let name : a.name ≡ b.name = some-inj a.name b.name (sym h.name ∙ k.name) in
    let what : a.what ≡ b.what = sym h.what ∙ k.what in
    let fields : a.fields ≡ b.fields =
    zip_one (λ child. IsField (text_of R (attrs_of child))) (λ child f g. field-one one (text_of R (attrs_of child)) f g) (fields_in form (children_of element)) a.fields b.fields h.fields k.fields
    in
    λ i. record { name = name i; what = what i; fields = fields i }

-- one schema
pub schema_one : OneTree → (root : text.Tree) (a b : Schema) → Declares root a → Declares root b → a ≡ b
schema_one one root a b h k =
    zip_one _ (λ entry d e. declaration-one one _ entry.0 entry.1 d e) (declaring (children_of root)) a b h.declared k.declared

-- one fault
pub fault_one : (root : text.Tree) (a b : SchemaFault) → DeclaresNot root a → DeclaresNot root b → a ≡ b
fault_one root a b h k = some-inj a b (sym h ∙ k)

-- not both
pub not_both : (root : text.Tree) (schema : Schema) (fault : SchemaFault) → Declares root schema → DeclaresNot root fault → ⊥
not_both root schema fault h k = let e : None ≡ Some fault = sym h.sound ∙ k in cc
