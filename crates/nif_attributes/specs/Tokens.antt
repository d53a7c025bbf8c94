-- Token groups. A child of the root named `token` is a group: each of its own children, of any name, gives a token
-- and a string. In every field of the whole text, in each attribute that the group lists, its tokens are replaced
-- by their strings: groups in the order of the text, tokens in their order.
use Rattle.std.specs.Prelude.{ℕ, ◌≡◌, zero, suc, ◌-◌, Bool, true, false, nat_le, if◌then◌else◌, List, [], ◌∷◌, ◌++◌, length, take, map, codes, Option, Some, None}
use Rattle.std.specs.Option.{is_none}
use Rattle.std.specs.List.{filter, filter_map, fold, list_any, slice_split}
use Rattle.std.specs.Str.{bytes_eq}
use Rattle.nif_base.specs.Limits.{most_expression_bytes}
use Rattle.nif_base.specs.Ascii.{is_blank}
use Rattle.nif_text.specs.Tree.{Tree, name_of, attrs_of, children_of}
use Rattle.nif_attributes.specs.declared.tokens.Attribute.{Attribute}
use Rattle.nif_attributes.specs.declared.tokens.Attribute.TheVariants as the
use Rattle.nif_attributes.specs.declared.tokens.Expanded.{Expanded}

-- A token, never empty, and the string that it is replaced by.
pub record Token : Type 0 where
  pub token : List ℕ
  pub string : List ℕ

-- The names of attributes that a group lists, and its tokens.
pub record Group : Type 0 where
  pub names : List (List ℕ)
  pub tokens : List Token

-- the value of the attribute of this name
abbrev pub value_of : List (List ℕ × List ℕ) → List ℕ → Option (List ℕ)
value_of [] name = None
value_of (attr ∷ attrs) name = if bytes_eq attr.0 name then Some attr.1 else value_of attrs name

-- A token counts as missing where it is empty; a string may be empty.
abbrev pub token_from : Option (List ℕ) → Option (List ℕ) → Option Token
token_from None string = None
token_from (Some []) string = None
token_from (Some (first ∷ more)) None = None
token_from (Some (first ∷ more)) (Some string) = Some (record { token = first ∷ more; string = string })

-- A child of a group is refused, and gives none, where it lacks `token`, or lacks `string` altogether.
abbrev pub token_of : Tree → Option Token
token_of child = token_from (value_of (attrs_of child) (codes "token")) (value_of (attrs_of child) (codes "string"))

-- whether a child of the group is refused
abbrev pub has_refused : Tree → Bool
has_refused group = list_any (λ child. is_none (token_of child)) (children_of group)

-- the names that `attrs` lists, separated by blanks
abbrev pub names_in : Option (List ℕ) → List (List ℕ)
names_in None = []
names_in (Some value) = slice_split is_blank value

-- the group of an element named `token`; children that are refused are passed over
abbrev pub group_of : Tree → Group
group_of element = record {
  names = names_in (value_of (attrs_of element) (codes "attrs"));
  tokens = filter_map token_of
      (children_of element);
}

-- the groups among the children of the root
abbrev pub groups_of : List Tree → List Group
groups_of children = map group_of (filter (λ child. bytes_eq (name_of child) (codes "token")) children)

-- whether the text begins with the token
abbrev pub begins : List ℕ → List ℕ → Bool
begins text token = bytes_eq (take (length token) text) token

-- What becomes of a text whose first bytes, so many of them, belong to a token that is replaced already: they are
-- passed over; then, where the text begins with the token, the string stands for it, and else its first byte stays.
abbrev pub replaced_behind : ℕ → List ℕ → List ℕ → List ℕ → List ℕ
replaced_behind passed token string [] = []
replaced_behind (suc passed) token string (byte ∷ text) = replaced_behind passed token string text
replaced_behind zero token string (byte ∷ text) =
    if begins (byte ∷ text) token then string ++ replaced_behind (length token - 1) token string text
    else byte ∷ replaced_behind 0 token string text

-- the text with the token replaced, from left to right and without overlap
abbrev pub replaced : List ℕ → List ℕ → List ℕ → List ℕ
replaced token string text = replaced_behind 0 token string text

-- One pass by a token. Where the text would have more than 4,096 bytes after it, the pass is not made, the text is
-- too long, and nothing more is replaced.
abbrev pub pass : Expanded → Token → Expanded
pass text by =
    let after = replaced by.token by.string text.text in
    if text.too_long then text
    else if nat_le (length after) most_expression_bytes then record { text = after; too_long = false }
    else record { text = text.text; too_long = true }

-- the passes by all tokens of a group, where it lists the name
abbrev pub pass_group : List ℕ → Expanded → Group → Expanded
pass_group name text group = if list_any (bytes_eq name) group.names then fold pass text group.tokens else text

-- the text of an attribute of this name after all passes
abbrev pub expanded : List Group → List ℕ → List ℕ → Expanded
expanded groups name text = fold (pass_group name) (record { text = text; too_long = false }) groups

-- the attributes of fields by their names
abbrev pub name_of_attribute : Attribute → List ℕ
name_of_attribute the.Name = codes "name"
name_of_attribute the.Type = codes "type"
name_of_attribute the.Template = codes "template"
name_of_attribute the.Arg = codes "arg"
name_of_attribute the.Length = codes "length"
name_of_attribute the.Width = codes "width"
name_of_attribute the.Cond = codes "cond"
name_of_attribute the.Vercond = codes "vercond"
name_of_attribute the.Since = codes "since"
name_of_attribute the.Until = codes "until"
name_of_attribute the.OnlyT = codes "onlyT"
name_of_attribute the.ExcludeT = codes "excludeT"
name_of_attribute the.Userver = codes "userver"
name_of_attribute the.Userver2 = codes "userver2"

-- the groups of both expand each text of each attribute of fields to the same
abbrev pub ExpandAlike : List Group → List Group → Type 0
ExpandAlike one other =
    (attribute : Attribute) (text : List ℕ)
    → expanded one (name_of_attribute attribute) text ≡ expanded other (name_of_attribute attribute) text
