-- What functions inside the crate answer.
use Rattle.std.specs.Prelude.{ℕ, ◌≡◌, Bool, false, IsTrue, List, [], ◌∷◌, ◌++◌, None, Some, map, filter}
use Rattle.std.specs.Option.{option_map, is_none}
use Rattle.std.specs.declared.option.Option.{Option}
use Rattle.std.specs.List.{list_any, AllZip}
use Rattle.nif_text.specs.Tree.{Tree, name_of, attrs_of, children_of}
use Rattle.nif_schema.specs.Declaration.{Declaration, formula, field, declaration}
use Rattle.nif_schema.specs.Basic.{IsLeafOf, HasItsLeaf}
use Rattle.nif_schema.specs.Schema.{Schema}
use Rattle.nif_schema.specs.declared.decls.Decl.{Decl}
use Rattle.nif_schema.specs.declared.decls.What.{What}
use Rattle.nif_schema.specs.declared.decls.What.TheVariants as what
use Rattle.nif_schema.specs.declared.members.BitMember.{BitMember}
use Rattle.nif_schema.specs.declared.faults.SchemaFault.{SchemaFault}
use Rattle.nif_schema.specs.declared.faults.SchemaFault.TheVariants as faults
use Rattle.nif_schema.specs.declared.fields.Field as kept
use Rattle.nif_attributes.specs.declared.tokens.Expanded.{Expanded}
use Rattle.nif_attributes.specs.Attributes.{Text, text_of}
use Rattle.nif_attributes.specs.Texts.{Either, IsFormula, plain, bound_of, exact_of}
use Rattle.nif_read.specs.Fields.{IsField, width_of, is_nameless}
use Rattle.nif_read.specs.declared.fields.Formulas.{Formulas}
use Rattle.nif_read.specs.declared.fields.Versions.{Versions}
use Rattle.nif_read.specs.declared.fields.Types.{Types}
use Rattle.nif_attributes.specs.declared.tokens.Attribute.TheVariants as the
use Rattle.nif_read.specs.Declarations.{form_of, is_field, is_member, name_in, member_of, fields_in, members_in, what_of, has_nameless, IsDeclaration}
use Rattle.nif_read.specs.Schemas.{fault_at}
use Rattle.nif_read.specs.declared.forms.Form.{Form}
use Rattle.nif_attributes.specs.declared.tokens.Attribute.{Attribute}

-- the attributes that are expressions
pub record HasFormulas (text : Attribute → Option Expanded) (f : Formulas) : Type 0 where
  pub arg : Either IsFormula (text the.Arg) (option_map formula f.arg)
  pub length : Either IsFormula (text the.Length) (option_map formula f.length)
  pub width : Either IsFormula (width_of text) (option_map formula f.width)
  pub cond : Either IsFormula (text the.Cond) (option_map formula f.cond)
  pub vercond : Either IsFormula (text the.Vercond) (option_map formula f.vercond)

-- the attributes that name versions
pub record HasVersions (text : Attribute → Option Expanded) (v : Versions) : Type 0 where
  pub since : option_map bound_of (text the.Since) ≡ v.since
  pub until : option_map bound_of (text the.Until) ≡ v.until
  pub user : option_map exact_of (text the.Userver) ≡ v.user
  pub bs : option_map exact_of (text the.Userver2) ≡ v.bs

-- the attributes that name types, but for the type itself
pub record HasTypes (text : Attribute → Option Expanded) (t : Types) : Type 0 where
  pub template : plain (text the.Template) ≡ t.template
  pub only : plain (text the.OnlyT) ≡ t.only
  pub exclude : plain (text the.ExcludeT) ≡ t.exclude

-- the name and the type of a field, or none where it lacks one of them
abbrev pub HasNames : (Attribute → Option Expanded) → Option (Text × Text) → Type 0
HasNames text None = IsTrue (is_nameless text)
HasNames text (Some names) =
    (is_nameless text ≡ false) × (plain (text the.Name) ≡ Some names.0) × (plain (text the.Type) ≡ Some names.1)

-- the field of these texts, or none where it lacks its name or its type
abbrev pub FieldRead : (Attribute → Option Expanded) → Option kept.Field → Type 0
FieldRead text None = IsTrue (is_nameless text)
FieldRead text (Some f) = (is_nameless text ≡ false) × IsField text (field f)

-- whether a child, as a field, lacks its name or its type
abbrev pub lacks : (Attribute → Text → Expanded) → Tree → Bool
lacks replacing child = is_nameless (text_of replacing (attrs_of child))

-- the fields among children, or none where one of them lacks its name or its type
abbrev pub FieldsRead : (Attribute → Text → Expanded) → List Tree → Option (List kept.Field) → Type 0
FieldsRead replacing children None = IsTrue (list_any (lacks replacing) (filter is_field children))
FieldsRead replacing children (Some fields) =
    (list_any (lacks replacing) (filter is_field children) ≡ false)
    × AllZip (λ child. IsField (text_of replacing (attrs_of child))) (filter is_field children) (map field fields)

-- the bit members among children, or none where one of them lacks its name
abbrev pub MembersRead : List Tree → Option (List BitMember) → Type 0
MembersRead children None = IsTrue (list_any (λ child. is_none (name_in (attrs_of child))) (filter is_member children))
MembersRead children (Some members) =
    (list_any (λ child. is_none (name_in (attrs_of child))) (filter is_member children) ≡ false)
    × (map (λ child. member_of (attrs_of child)) (filter is_member children) ≡ members)

-- the fields of an element, or none where one of them lacks its name or its type
abbrev pub OwnFieldsRead : (Attribute → Text → Expanded) → Form → Tree → Option (List kept.Field) → Type 0
OwnFieldsRead replacing form element None = IsTrue (list_any (lacks replacing) (fields_in form (children_of element)))
OwnFieldsRead replacing form element (Some fields) =
    (list_any (lacks replacing) (fields_in form (children_of element)) ≡ false)
    × AllZip (λ child. IsField (text_of replacing (attrs_of child))) (fields_in form (children_of element))
    (map field fields)

-- the leaf of a basic suits its name
abbrev pub HasLeaf : Text → What → Type 0
HasLeaf name (what.Basic own) = IsLeafOf name own
HasLeaf name (what.Stored storage members) = Unit {0}
HasLeaf name what.Struct = Unit {0}
HasLeaf name (what.Block parent is_abstract) = Unit {0}

-- what an element of a name declares, or none where a bit member of it lacks its name
abbrev pub WhatRead : Form → Text → Tree → Option What → Type 0
WhatRead form name element None =
    IsTrue (list_any (λ child. is_none (name_in (attrs_of child))) (members_in form (children_of element)))
WhatRead form name element (Some declared) =
    (list_any (λ child. is_none (name_in (attrs_of child))) (members_in form (children_of element)) ≡ false)
    × (what_of form (attrs_of element) (children_of element) ≡ declared) × HasLeaf name declared

-- the declaration of an element, or none where a part of it lacks its name or its type
abbrev pub DeclarationRead : (Attribute → Text → Expanded) → Form → Tree → Option Decl → Type 0
DeclarationRead replacing form element None = IsTrue (has_nameless replacing form element)
DeclarationRead replacing form element (Some decl) =
    (has_nameless replacing form element ≡ false) × IsDeclaration replacing form element (declaration decl)
    × HasItsLeaf (declaration decl)

-- The step from one schema to the next at a child of the root, where there is no fault.
abbrev pub StepAs : (Attribute → Text → Expanded) → Tree → Schema → Schema → Option Form → Type 0
StepAs replacing child old new None = new ≡ old
StepAs replacing child old new (Some form) =
    (d : Declaration) × IsDeclaration replacing form child d × (new ≡ old ++ d ∷ [])

-- What a child of the root does to a schema: a step, or its fault.
pub record Stepped (replacing : Attribute → Text → Expanded) (number : ℕ) (child : Tree)
    (old new : Schema) : Type 0 where
  pub sound : fault_at replacing (map (λ d. d.name) old) number child ≡ None
  pub step : StepAs replacing child old new (form_of (name_of child))

-- a fault other than want of memory is this one
abbrev pub IsFaultOf : Option SchemaFault → SchemaFault → Type 0
IsFaultOf told faults.NoMemory = Unit {0}
IsFaultOf told fault = told ≡ Some fault
