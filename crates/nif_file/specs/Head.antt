-- What the members of the header say of the file. The last present member of a name counts; an absent number is 0.
use Rattle.std.specs.Prelude.{ℕ, ◌%◌, ◌^◌, false, codes, List, [], ◌∷◌, None, Some, ◌==◌, if◌then◌else◌, unwrap_or}
use Rattle.std.specs.declared.option.Option.{Option}
use Rattle.std.specs.Option.{option_map, option_map_or}
use Rattle.nif_base.specs.declared.orders.Order.{Order}
use Rattle.nif_base.specs.declared.orders.Order.TheVariants.{Little, Big}
use Rattle.nif_base.specs.Node as node
use Rattle.nif_base.specs.Node.{Node, Members, End, Here, Absent}
use Rattle.nif_schema.specs.Declaration.{Name, Field}
use Rattle.nif_schema.specs.Schema.{Schema}
use Rattle.nif_layout.specs.Context.{Context}
use Rattle.nif_layout.specs.Earlier.{Env, last_present, passed}
use Rattle.nif_layout.specs.PathValue.{number_in, fields_in}
use Rattle.nif_layout.specs.Form.{number_at_item}
use Rattle.nif_file.specs.FirstLine.{line_version}

-- ---- members by name

abbrev pub member : Name → Env → Option Node
member name E = option_map (λ at. at.1) (last_present name E)

abbrev pub number_of : Name → Env → ℕ
number_of name E = option_map_or (number_in false) (member name E) 0

-- the number of a name inside a group
abbrev pub inner_number : Schema → Name → Field → Node → ℕ
inner_number S name f (node.Group members) = number_of name (passed (fields_in S f) members [])
inner_number S name f _ = 0

-- ---- versions and byte order

-- the bytes of the first line
abbrev pub line_in : Option Node → List ℕ
line_in (Some (node.Line bytes)) = bytes
line_in _ = []

abbrev pub first_member : Env → Option Node
first_member [] = None
first_member (earlier ∷ []) = earlier.node
first_member (earlier ∷ later ∷ before) = first_member (later ∷ before)

-- the version of the line, and 0 before it was read
abbrev pub version_in : Env → ℕ
version_in E = unwrap_or (line_version (line_in (first_member E))) 0

-- The BS version is `User Version 2`, or `BS Version` in `BS Header`. No schema has both.
abbrev pub bs_version : Schema → Env → ℕ
bs_version S E =
    option_map_or (number_in false) (member (codes "User Version 2") E)
    (option_map_or (λ at. inner_number S (codes "BS Version") at.0 at.1) (last_present (codes "BS Header") E) 0)

-- An `Endian Type` of 0 makes the file big, and one of 1 little; so it is without that member.
abbrev pub order_in : Env → Order
order_in E =
    option_map_or (λ at. if number_in false at == 0 then Big else Little) (member (codes "Endian Type") E) Little

-- What decides how the next member of the header is read: no block, owner or string is there.
abbrev pub header_context : Schema → Env → Context
header_context S E = record {
  version = version_in E;
  user = number_of (codes "User Version") E;
  bs = bs_version S E;
  order = order_in E;
  owner = None;
  blocks = 0;
  strings = 0;
}

-- What decides how the footer is read, behind all members of the header.
abbrev pub file_context : Schema → Env → Context
file_context S E = record (header_context S E) {
  blocks = number_of (codes "Num Blocks") E;
  strings = number_of
      (codes "Num Strings") E;
}

-- And the value of a block of this type.
abbrev pub block_context : Schema → Env → ℕ → Context
block_context S E kind = record (file_context S E) { owner = Some kind }

-- ---- lists

-- the bytes of a sized string
abbrev pub string_in : Node → List ℕ
string_in (node.Group (Here length (Here (node.Bytes bytes) End))) = bytes
string_in _ = []

abbrev pub strings_in : Members → List (List ℕ)
strings_in End = []
strings_in (Here item rest) = string_in item ∷ strings_in rest
strings_in (Absent rest) = strings_in rest

abbrev pub row_in : Option Node → List (List ℕ)
row_in (Some (node.Row items)) = strings_in items
row_in _ = []

-- the names of the types
abbrev pub type_names : Env → List Name
type_names E = row_in (member (codes "Block Types") E)

-- The entry of a block in the index of types. A file whose header has that index is indexed.
abbrev pub index_word : Env → ℕ → Option ℕ
index_word E block = option_map (number_at_item false block) (member (codes "Block Type Index") E)

-- Its low 15 bits number a name of the types. The high bit is kept and not read.
abbrev pub type_place : ℕ → ℕ
type_place word = word % 2 ^ 15

-- The length of the value of a block, where the file states it.
abbrev pub stated_size : Env → ℕ → Option ℕ
stated_size E block = option_map (number_at_item false block) (member (codes "Block Size") E)
