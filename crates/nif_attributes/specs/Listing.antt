-- What parts of the code say.
use Rattle.std.specs.Prelude.{ℕ, ◌≡◌, List, [], ◌∷◌}
use Rattle.std.specs.List.{fold, list_any}
use Rattle.std.specs.Str.{bytes_eq}
use Rattle.std.specs.Borrow.{Bor}
use Rattle.nif_attributes.specs.declared.tokens.Attribute.{Attribute}
use Rattle.nif_attributes.specs.Tokens.{Token, Group, pass_group, name_of_attribute}
use Rattle.nif_attributes.specs.declared.tokens.Expanded.{Expanded}

-- the token of a pair of its texts
abbrev pub parts_token : Bor (List ℕ) × Bor (List ℕ) → Token
parts_token pair = record { token = pair.0.now; string = pair.1.now }

-- both lists have the same names of attributes of fields
abbrev pub ListAlike : List (List ℕ) → List (List ℕ) → Type 0
ListAlike one other =
    (attribute : Attribute)
    → list_any (bytes_eq (name_of_attribute attribute)) one ≡ list_any (bytes_eq (name_of_attribute attribute)) other

-- the passes by both lists of groups do the same
abbrev pub GroupsAlike : List Group → List Group → Type 0
GroupsAlike one other =
    (attribute : Attribute) (text : Expanded) → fold (pass_group (name_of_attribute attribute)) text one
    ≡ fold (pass_group (name_of_attribute attribute)) text other

-- a token, and the names of attributes of fields in which it is
pub record Listed : Type 0 where
  pub names : List (List ℕ)
  pub by : Token

abbrev pub listed_as : List (List ℕ) → Token → Listed
listed_as names by = record { names = names; by = by }

-- a group of one token
abbrev pub lone : Listed → Group
lone one = record { names = one.names; tokens = one.by ∷ [] }

abbrev pub text_of : Listed → List ℕ
text_of one = one.by.token
