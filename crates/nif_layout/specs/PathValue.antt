-- The value of a path of names, where an expression of a field asks for it.
use Rattle.std.specs.Prelude.{ℕ, ◌+◌, ◌-◌, ◌*◌, ◌/◌, ◌%◌, ◌^◌, Bool, false, ◌&&◌, nat_le, codes, bytes_eq, if◌then◌else◌, None, Some, List, [], ◌∷◌, option_and_then}
use Rattle.std.specs.declared.option.Option.{Option}
use Rattle.std.specs.Option.{option_map_or}
use Rattle.std.specs.List as list
use Rattle.nif_base.specs.Node.{Node, Num, Group}
use Rattle.nif_schema.specs.Declaration.{Name, Field}
use Rattle.nif_schema.specs.Schema.{Schema, find, line}
use Rattle.nif_schema.specs.Uses.{named, what_at}
use Rattle.nif_schema.specs.Paths.{type_of}
use Rattle.nif_schema.specs.declared.decls.Leaf.{Leaf}
use Rattle.nif_schema.specs.declared.decls.Leaf.TheVariants as leaf
use Rattle.nif_schema.specs.declared.decls.What.{What}
use Rattle.nif_schema.specs.declared.decls.What.TheVariants.{Basic, Stored}
use Rattle.nif_schema.specs.declared.members.BitMember.{BitMember}
use Rattle.nif_layout.specs.Context.{Context}
use Rattle.nif_layout.specs.Earlier.{Env, has_name, last_present, passed}

-- the leaf of a basic
abbrev pub basic_leaf : What → Leaf
basic_leaf (Basic own) = own
basic_leaf _ = leaf.Unread

-- A stored type is spelled as the basic that is its storage.
abbrev pub leaf_of : Schema → What → Leaf
leaf_of schema (Basic own) = own
leaf_of schema (Stored storage members) =
    option_map_or basic_leaf (option_and_then (what_at schema) (option_and_then (find schema) storage)) leaf.Unread
leaf_of schema _ = leaf.Unread

abbrev pub is_signed_leaf : Leaf → Bool
is_signed_leaf (leaf.Num width signed little float) = signed
is_signed_leaf _ = false

-- the numbers of a field are signed
abbrev pub is_signed : Schema → Field → Bool
is_signed schema f = option_map_or (λ what. is_signed_leaf (leaf_of schema what)) (type_of schema f) false

-- a number of a width in bytes, extended by its sign to 64 bits where it is signed
abbrev pub extended : Bool → ℕ → ℕ → ℕ
extended signed width bits = if signed && nat_le (2 ^ (8 * width - 1)) bits then bits + (2 ^ 64 - 2 ^ (8 * width))
    else bits

-- the number that a node is, and 0 where it is none
abbrev pub number_in : Bool → Node → ℕ
number_in signed (Num width little bits) = extended signed width bits
number_in signed _ = 0

-- What a path has led to: nothing that is present, a field with its node, or the bits of a member of a bitfield.
pub data Found : Type 0 where
  Nothing : Found
  Value : (field : Field) → (node : Node) → Found
  Bits : (value : ℕ) → Found

abbrev pub found : Option (Field × Node) → Found
found None = Nothing
found (Some at) = Value at.0 at.1

-- the fields of the struct that the type of a field is
abbrev pub fields_in : Schema → Field → List Field
fields_in schema f = option_map_or (line schema) (named schema f.kind) []

-- the members of the bitfield that the type of a field is
abbrev pub bits_of_type : What → List BitMember
bits_of_type (Stored storage members) = members
bits_of_type _ = []

abbrev pub bits_in : Schema → Field → List BitMember
bits_in schema f = option_map_or bits_of_type (type_of schema f) []

-- the bits of a member, of all bits of its number
abbrev pub member_bits : ℕ → BitMember → ℕ
member_bits bits member = bits / 2 ^ member.pos % 2 ^ member.width

-- Where a name leads: in a group to the last present field of that name, in a number of a bitfield to the bits of the
-- first member of that name.
abbrev pub step : Schema → Name → Found → Found
step schema name (Value f (Group members)) = found (last_present name (passed (fields_in schema f) members []))
step schema name (Value f (Num width little bits)) = option_map_or (λ member. Bits (member_bits bits member))
    (list.find (λ (member : BitMember). bytes_eq name member.name) (bits_in schema f)) Nothing
step schema name _ = Nothing

-- The number that was found, extended by its sign where it isn't the bits of a member; 0 where there is none.
abbrev pub number_of : Schema → Found → ℕ
number_of schema Nothing = 0
number_of schema (Value f node) = number_in (is_signed schema f) node
number_of schema (Bits value) = value

abbrev pub follow : Schema → Found → List Name → ℕ
follow schema at [] = number_of schema at
follow schema at (name ∷ names) = follow schema (step schema name at) names

-- the names of the header
abbrev pub header_value : Context → List Name → Option ℕ
header_value C (name ∷ []) =
    if bytes_eq name (codes "Version") then Some C.version
    else if bytes_eq name (codes "User Version") then Some C.user
    else if bytes_eq name (codes "User Version 2") then Some C.bs
    else None
header_value C (name ∷ next ∷ []) = if bytes_eq name (codes "BS Header") && bytes_eq next (codes "BS Version")
    then Some C.bs else None
header_value C _ = None

-- The value of a path behind these earlier fields: where one has its first name, what the path leads to from the last
-- present one, else what it is in the header. A path may have no value; in an open type each one has.
abbrev pub path_value : Schema → Context → Env → List Name → Option ℕ
path_value schema C E [] = None
path_value schema C E (name ∷ names) =
    if has_name name E then Some (follow schema (found (last_present name E)) names) else header_value C (name ∷ names)
