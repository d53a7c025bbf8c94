-- A declaration as plain data: what the program keeps, with each expression as its tree.
use Rattle.std.specs.Prelude.{ℕ, Bool, true, false, List, map, None}
use Rattle.std.specs.declared.option.Option.{Option}
use Rattle.std.specs.Option.{option_map}
use Rattle.nif_schema.specs.Expression.{Tree, tree}
use Rattle.nif_schema.specs.declared.decls.What.{What}
use Rattle.nif_schema.specs.declared.decls.What.TheVariants.{Block}
use Rattle.nif_schema.specs.declared.decls.Decl.{Decl}
use Rattle.nif_schema.specs.declared.fields.Bound.{Bound}
use Rattle.nif_schema.specs.declared.fields.Exact.{Exact}
use Rattle.nif_schema.specs.declared.fields.Field as kept_field
use Rattle.nif_schema.specs.declared.fields.Formula as kept

-- a name is a list of bytes
abbrev pub Name : Type 0
Name = List ℕ

-- an attribute that should be an expression: its tree, or bad where the text was none
pub data Formula : Type 0 where
  Read : (of : Tree) → Formula
  Bad : Formula

-- A field with its attributes, each of which may be missing.
pub record Field : Type 0 where
  pub name : Name
  pub kind : Name
  pub template : Option Name
  pub arg : Option Formula
  pub length : Option Formula
  pub width : Option Formula
  pub cond : Option Formula
  pub vercond : Option Formula
  pub since : Option Bound
  pub until : Option Bound
  pub user : Option Exact
  pub bs : Option Exact
  pub only : Option Name
  pub exclude : Option Name

-- A declaration: a name, what it declares, and its own fields in order.
pub record Declaration : Type 0 where
  pub name : Name
  pub what : What
  pub fields : List Field

abbrev pub formula : kept.Formula → Formula
formula (kept.TheVariants.Read expr) = Read (tree expr)
formula kept.TheVariants.Bad = Bad

abbrev pub field : kept_field.Field → Field
field f = record {
  name = f.name;
  kind = f.kind;
  template = f.template;
  arg = option_map formula f.arg;
  length = option_map formula f.length;
  width = option_map formula f.width;
  cond = option_map formula f.cond;
  vercond = option_map formula f.vercond;
  since = f.since;
  until = f.until;
  user = f.user;
  bs = f.bs;
  only = f.only;
  exclude = f.exclude;
}

abbrev pub declaration : Decl → Declaration
declaration d = record { name = d.name; what = d.what; fields = map field d.fields }

abbrev pub is_block : What → Bool
is_block (Block parent is_abstract) = true
is_block _ = false

-- the name that a block type inherits from
abbrev pub inherited : What → Option Name
inherited (Block parent is_abstract) = parent
inherited _ = None
