-- What the texts of a field's attributes read to.
use Rattle.std.specs.Prelude.{ℕ, ◌≡◌, ◌≤◌, ◌-◌, ◌^◌, false, ◌&&◌, if◌then◌else◌, nat_le, length, None, Some}
use Rattle.std.specs.declared.option.Option.{Option}
use Rattle.std.specs.Option.{option_map}
use Rattle.std.specs.List.{list_all}
use Rattle.std.specs.Char.{is_ascii_digit}
use Rattle.std.specs.Str.Parse.{digits_value}
use Rattle.nif_base.specs.Limits.{most_expression_bytes}
use Rattle.nif_base.specs.Version.{version_of}
use Rattle.nif_schema.specs.Expression.{Tree}
use Rattle.nif_schema.specs.Declaration.{Formula, Read, Bad}
use Rattle.nif_schema.specs.declared.fields.Bound.{Bound}
use Rattle.nif_schema.specs.declared.fields.Bound.TheVariants as bound
use Rattle.nif_schema.specs.declared.fields.Exact.{Exact}
use Rattle.nif_schema.specs.declared.fields.Exact.TheVariants as exact
use Rattle.nif_expr.specs.Grammar.{IsExpression}
use Rattle.nif_attributes.specs.declared.tokens.Attribute.{Attribute}
use Rattle.nif_attributes.specs.declared.tokens.Expanded.{Expanded}
use Rattle.nif_attributes.specs.declared.texts.Texts.{Texts}
use Rattle.nif_attributes.specs.Attributes.{Text, text_of, replaced_by}

-- The grammar gives this tree to a text of at most 4,096 bytes.
pub record Reads (text : Expanded) (tree : Tree) : Type 0 where
  pub whole : text.too_long ≡ false
  pub short : length text.text ≤ most_expression_bytes
  pub read : IsExpression text.text tree

-- An expression is read to its tree, and is bad where it has none.
abbrev pub IsFormula : Expanded → Formula → Type 0
IsFormula text (Read tree) = Reads text tree
IsFormula text Bad = (tree : Tree) → Reads text tree → ⊥

-- both are missing, or R holds of them
abbrev pub Either : {A B : Type 0} → (A → B → Type 0) → Option A → Option B → Type 0
Either R None None = Unit {0}
Either R None (Some b) = ⊥
Either R (Some a) None = ⊥
Either R (Some a) (Some b) = R a b

-- A bound is the version of its text, and is bad where that is too long or no version text.
abbrev pub bound_of_version : Option ℕ → Bound
bound_of_version (Some number) = bound.Read (record { number = number })
bound_of_version None = bound.Bad

unfoldable pub bound_of : Expanded → Bound
bound_of text = if text.too_long then bound.Bad else bound_of_version (version_of text.text)

-- the number of decimal digits, one or more, where it is not above `most`
unfoldable pub decimal : ℕ → Text → Option ℕ
decimal most text =
    if list_all is_ascii_digit text && nat_le 1 (length text) && nat_le (digits_value 10 text) most
    then Some (digits_value 10 text)
    else None

-- A user version is a decimal number below 2^32, and any other text is bad.
abbrev pub exact_of_number : Option ℕ → Exact
exact_of_number (Some number) = exact.Is number
exact_of_number None = exact.Bad

unfoldable pub exact_of : Expanded → Exact
exact_of text = exact_of_number (decimal (2 ^ 32 - 1) text.text)

-- a text that is kept as it is
abbrev pub plain : Option Expanded → Option Text
plain text = option_map (λ e. e.text) text

-- the texts of the attributes of a field, after older spellings and tokens
abbrev pub texts : Texts → Attribute → Option Expanded
texts t = text_of (replaced_by t.tokens.now) t.attrs.now
