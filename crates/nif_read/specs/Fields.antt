-- The fields of a struct or block type.
use Rattle.std.specs.Prelude.{◌≡◌, Bool, ◌||◌, Some, option_and_then}
use Rattle.std.specs.declared.option.Option.{Option}
use Rattle.std.specs.Option.{option_map, is_none}
use Rattle.nif_schema.specs.Declaration.{Field}
use Rattle.nif_attributes.specs.declared.tokens.Expanded.{Expanded}
use Rattle.nif_attributes.specs.Texts.{Either, IsFormula, bound_of, exact_of, plain}
use Rattle.nif_attributes.specs.declared.tokens.Attribute.{Attribute}
use Rattle.nif_attributes.specs.declared.tokens.Attribute.TheVariants as the

-- A width without a length is passed over.
abbrev pub width_of : (Attribute → Option Expanded) → Option Expanded
width_of text = option_and_then (λ _. text the.Width) (text the.Length)

-- A field by the texts of its attributes.
pub record IsField (text : Attribute → Option Expanded) (field : Field) : Type 0 where
  pub name : plain (text the.Name) ≡ Some field.name
  pub kind : plain (text the.Type) ≡ Some field.kind
  pub template : plain (text the.Template) ≡ field.template
  pub arg : Either IsFormula (text the.Arg) field.arg
  pub length : Either IsFormula (text the.Length) field.length
  pub width : Either IsFormula (width_of text) field.width
  pub cond : Either IsFormula (text the.Cond) field.cond
  pub vercond : Either IsFormula (text the.Vercond) field.vercond
  pub since : option_map bound_of (text the.Since) ≡ field.since
  pub until : option_map bound_of (text the.Until) ≡ field.until
  pub user : option_map exact_of (text the.Userver) ≡ field.user
  pub bs : option_map exact_of (text the.Userver2) ≡ field.bs
  pub only : plain (text the.OnlyT) ≡ field.only
  pub exclude : plain (text the.ExcludeT) ≡ field.exclude

-- A field has a name and a type.
unfoldable pub is_nameless : (Attribute → Option Expanded) → Bool
is_nameless text = is_none (text the.Name) || is_none (text the.Type)
