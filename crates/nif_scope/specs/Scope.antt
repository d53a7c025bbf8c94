-- Where the members of a group are read, and what is known of those that were read.
use Rattle.std.specs.Prelude.{ℕ, ◌≡◌, Bool, false, bytes_eq, List, [], ◌∷◌, length, ◌<◌, IfSome, Contains, ◌⊎◌}
use Rattle.std.specs.declared.option.Option.{Option}
use Rattle.std.specs.Option.{option_map_or}
use Rattle.std.specs.List.{list_any}
use Rattle.nif_base.specs.Node.{Members}
use Rattle.nif_schema.specs.Declaration.{Name, Formula, Read, Field}
use Rattle.nif_schema.specs.Expression.{Path}
use Rattle.nif_schema.specs.Schema.{Schema, line}
use Rattle.nif_layout.specs.Context.{Context}
use Rattle.nif_layout.specs.Laws.{IsOpenType, HasTemplate}
use Rattle.nif_layout.specs.Earlier.{Env, passed}
use Rattle.nif_layout.specs.Kind as kind
use Rattle.nif_layout.specs.Form.{Form, One, Row, row_of}
use Rattle.nif_scope.specs.declared.settings.ValueContext.{ValueContext}
use Rattle.nif_scope.specs.declared.settings.Setting.{Setting}
use Rattle.nif_scope.specs.declared.entries.Entry.{Entry}
use Rattle.nif_scope.specs.declared.forms.Kind.{Kind}
use Rattle.nif_scope.specs.declared.forms.Kind.TheVariants.{Number, Line, Ref, Text, Group, Unknown}
use Rattle.nif_scope.specs.declared.forms.Size.{Size}
use Rattle.nif_scope.specs.declared.forms.Size.TheVariants as size
use Rattle.nif_scope.specs.Told.{line_told}

-- a context of the code as that of the definitions
abbrev pub context_of : ValueContext → Context
context_of c = record {
  version = c.context.version.number;
  user = c.context.user;
  bs = c.context.bs;
  order = c.context.order;
  owner = c.owner;
  blocks = c.blocks;
  strings = c.strings;
}

abbrev pub is_bare : Name → Formula → Bool
is_bare name (Read (Path (first ∷ []))) = bytes_eq first name
is_bare name _ = false

-- The items of an array are asked for where the `width` of a field of the line is its bare name.
abbrev pub asks : Schema → ℕ → Field → Bool
asks schema number f = list_any (λ g. option_map_or (is_bare f.name) g.width false) (line schema number)

-- the context of a setting, for the definitions
abbrev pub context_in : Setting → Context
context_in at = context_of at.context.now

-- What a setting is: its declaration is an open type, with a template where that is generic; and a block that owns it
-- is declared.
pub record IsSetting (at : Setting) : Type 0 where
  pub is_open : IsOpenType at.schema.now at.number
  pub template : HasTemplate at.schema.now at.number at.template
  pub owner : IfSome at.context.now.owner (λ owner. owner < length at.schema.now)

-- a field of its line
abbrev pub IsField : Setting → Field → Type 0
IsField at f = Contains (line at.schema.now at.number) f

-- the entries are those of these members
abbrev pub Tells : Setting → List Entry → Members → Type 0
Tells at entries members = entries ≡ line_told (asks at.schema.now at.number) (line at.schema.now at.number) members

-- the members as earlier fields
abbrev pub earlier : Setting → Members → Env
earlier at members = passed (line at.schema.now at.number) members []

-- what one value is
abbrev pub kind_of : Schema → Kind → kind.Kind
kind_of schema (Number width little) = kind.Number width little
kind_of schema Line = kind.Line
kind_of schema (Ref strong wanted) = kind.Ref strong wanted
kind_of schema Text = kind.Text
kind_of schema (Group number template arg) = kind.Group (line schema number) template arg
kind_of schema Unknown = kind.Unknown

-- what the value of a field is, of such a size, where `width` says how many values stand in each row of a row of rows
abbrev pub form_of_size : kind.Kind → (ℕ → ℕ) → Size → Form
form_of_size of width size.One = One of
form_of_size of width (size.Array count run) = row_of run of count
form_of_size of width (size.Rows count run) = Row count (λ i. row_of run of (width i))

-- the length of row i of a row of rows, 0 where the field has no `width`
abbrev pub width_of : (Formula → ℕ → ℕ) → Option Formula → ℕ → ℕ
width_of width f i = option_map_or (λ w. width w i) f 0

-- what one value is in an open type: a number of 1, 2, 4 or 8 bytes, or a group of an open type, with a template where
-- that is generic
abbrev pub IsKnown : Schema → Kind → Type 0
IsKnown schema (Number width little) = (width ≡ 1) ⊎ ((width ≡ 2) ⊎ ((width ≡ 4) ⊎ (width ≡ 8)))
IsKnown schema (Group number template arg) = IsOpenType schema number × HasTemplate schema number template
IsKnown schema Unknown = ⊥
IsKnown schema _ = Unit {0}
