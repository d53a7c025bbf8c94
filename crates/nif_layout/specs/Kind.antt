-- What one value of a type is, with the schema looked up.
use Rattle.std.specs.Prelude.{ℕ, Bool, true, false, nat_lt, if◌then◌else◌, None, List}
use Rattle.std.specs.declared.option.Option.{Option}
use Rattle.std.specs.Option.{option_map_or}
use Rattle.nif_schema.specs.Declaration.{Field}
use Rattle.nif_schema.specs.Schema.{Schema, line}
use Rattle.nif_schema.specs.Uses.{what_at}
use Rattle.nif_schema.specs.declared.decls.Leaf.{Leaf}
use Rattle.nif_schema.specs.declared.decls.Leaf.TheVariants as leaf
use Rattle.nif_schema.specs.declared.decls.What.{What}
use Rattle.nif_schema.specs.declared.decls.What.TheVariants.{Basic, Stored, Struct, Block}
use Rattle.nif_layout.specs.Context.{Context}
use Rattle.nif_layout.specs.PathValue.{leaf_of}

-- A number of a width in bytes, a line, a reference, a text index, or a group of the fields of a line, under a
-- template and with an argument. A type that has no values is unknown.
pub data Kind : Type 0 where
  Number : (width : ℕ) → (little : Bool) → Kind
  Line : Kind
  Ref : (strong : Bool) → (wanted : Option ℕ) → Kind
  Text : Kind
  Group : (fields : List Field) → (template : Option ℕ) → (arg : ℕ) → Kind
  Unknown : Kind

-- `bool` has four bytes below version 4.1.0.1, and one from there on.
abbrev pub bool_width : Context → ℕ
bool_width C = if nat_lt C.version 0x04010001 then 4 else 1

-- A reference wants the declaration that its template names, any where there is none.
abbrev pub kind_of_leaf : Context → Option ℕ → Leaf → Kind
kind_of_leaf C template (leaf.Num width signed little float) = Number width little
kind_of_leaf C template leaf.Bool = Number (bool_width C) false
kind_of_leaf C template leaf.Line = Line
kind_of_leaf C template leaf.Ref = Ref true template
kind_of_leaf C template leaf.Ptr = Ref false template
kind_of_leaf C template leaf.Text = Text
kind_of_leaf C template leaf.Unread = Unknown

-- A block type has no template, and its argument is 0, also where a template puts it in a field's place.
abbrev pub kind_of_what : Schema → Context → ℕ → Option ℕ → ℕ → What → Kind
kind_of_what schema C number template arg (Basic own) = kind_of_leaf C template own
kind_of_what schema C number template arg (Stored storage members) =
    kind_of_leaf C None (leaf_of schema (Stored storage members))
kind_of_what schema C number template arg Struct = Group (line schema number) template arg
kind_of_what schema C number template arg (Block parent is_abstract) = Group (line schema number) None 0

-- what a value of the declaration of this number is, under a template and with an argument
abbrev pub kind_of : Schema → Context → ℕ → Option ℕ → ℕ → Kind
kind_of schema C number template arg =
    option_map_or (kind_of_what schema C number template arg) (what_at schema number) Unknown
