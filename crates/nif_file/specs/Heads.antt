-- What is kept while a header is read, and what it stands for.
use Rattle.std.specs.Prelude.{ℕ, suc, ◌≡◌, ◌^◌, ◌<◌, true, false, bytes_eq, codes, is_some, None, Some, List, [], ◌∷◌, ◌++◌, drop, length, if◌then◌else◌}
use Rattle.std.specs.declared.option.Option.{Option}
use Rattle.std.specs.Option.{option_map, option_map_or}
use Rattle.nif_base.specs.Node.{Node, Members, End}
use Rattle.nif_schema.specs.Declaration.{Name, Field}
use Rattle.nif_schema.specs.Schema.{Schema}
use Rattle.nif_schema.specs.declared.contexts.Context as code
use Rattle.nif_graph.specs.declared.places.RolePlaces.{RolePlaces}
use Rattle.nif_layout.specs.Context.{Context}
use Rattle.nif_layout.specs.Earlier.{Env, last_present}
use Rattle.nif_layout.specs.Present.{present}
use Rattle.nif_layout.specs.Form.{form_of}
use Rattle.nif_layout.specs.Shape.{FormShape}
use Rattle.nif_layout.specs.PathValue.{number_in}
use Rattle.nif_file.specs.declared.heads.Head.{Head}
use Rattle.nif_file.specs.Head.{header_context, member, number_of, inner_number, version_in, order_in}
use Rattle.nif_file.specs.Files.{header_depth, header_line, head_of}
use Rattle.nif_file.specs.FileFails.{start_of}
use Rattle.nif_file.specs.HeaderParts.{with_members, PartReads, IsPlaceOf}

-- What is kept says the same as the members that were read.
pub record IsHead (S : Schema) (E : Env) (head : Head) : Type 0 where
  pub version : head.version.number ≡ version_in E
  pub user : head.user ≡ number_of (codes "User Version") E
  pub second : head.second ≡ option_map (number_in false) (member (codes "User Version 2") E)
  pub inner : head.inner ≡ option_map_or (λ at. inner_number S (codes "BS Version") at.0 at.1)
      (last_present (codes "BS Header") E) 0
  pub order : head.order ≡ order_in E
  pub blocks : head.blocks ≡ number_of (codes "Num Blocks") E
  pub strings : head.strings ≡ number_of (codes "Num Strings") E
  pub index : head.has_index ≡ is_some (member (codes "Block Type Index") E)
  pub types : head.has_types ≡ is_some (member (codes "Num Block Types") E)
  pub names : head.has_names ≡ is_some (member (codes "Block Types") E)

-- The numbers of the header have 32 bits, and that of the byte order has 8.
pub record IsSmall (name : Name) (number inner : ℕ) : Type 0 where
  pub version : bytes_eq (codes "Version") name ≡ true → number < 2 ^ 32
  pub user : bytes_eq (codes "User Version") name ≡ true → number < 2 ^ 32
  pub second : bytes_eq (codes "User Version 2") name ≡ true → number < 2 ^ 32
  pub in_group : bytes_eq (codes "BS Header") name ≡ true → inner < 2 ^ 32
  pub order : bytes_eq (codes "Endian Type") name ≡ true → number < 256
  pub blocks : bytes_eq (codes "Num Blocks") name ≡ true → number < 2 ^ 32
  pub types : bytes_eq (codes "Num Block Types") name ≡ true → number < 2 ^ 32
  pub strings : bytes_eq (codes "Num Strings") name ≡ true → number < 2 ^ 32

-- a context of the code, where nothing owns what is read, with these numbers of blocks and of strings
abbrev pub context_of : code.Context → ℕ → ℕ → Context
context_of context blocks strings = record {
  version = context.version.number;
  user = context.user;
  bs = context.bs;
  order = context.order;
  owner = None;
  blocks = blocks;
  strings = strings;
}

-- the member of a field, as it is behind these earlier fields, or none where it is absent
abbrev pub IsNext : Schema → Env → Field → Option Node → Type 0
IsNext S E f None = present S (header_context S E) 0 E f ≡ false
IsNext S E f (Some node) =
    (present S (header_context S E) 0 E f ≡ true)
    × FormShape S (header_context S E) header_depth (form_of S (header_context S E) None 0 E f) node

-- The members of the first fields are read, and none is refused; these bytes spell them, whatever stands behind.
pub record IsPart (S : Schema) (count : ℕ) (held : Members) (bytes : List ℕ) (counted : ℕ) : Type 0 where
  pub gots : List (Option Node)
  pub is : held ≡ with_members gots End
  pub reads : (rest : List ℕ)
      → PartReads S gots (header_line S) [] (start_of (bytes ++ rest)) (drop count (header_line S)) (head_of S held)
      (record { nodes = counted; place = length bytes; left = rest })

-- the place of the first field of a name
abbrev pub place_in : Name → List Field → Option ℕ
place_in name [] = None
place_in name (f ∷ fields) = if bytes_eq name f.name then Some 0 else option_map (λ k. suc k) (place_in name fields)

-- Each place is that of the only field of its name.
pub record ArePlaces (S : Schema) (places : RolePlaces) : Type 0 where
  pub num_blocks : IsPlaceOf (codes "Num Blocks") (header_line S) (Some places.num_blocks)
  pub num_types : IsPlaceOf (codes "Num Block Types") (header_line S) places.num_types
  pub types : IsPlaceOf (codes "Block Types") (header_line S) places.types
  pub index : IsPlaceOf (codes "Block Type Index") (header_line S) places.index
  pub sizes : IsPlaceOf (codes "Block Size") (header_line S) places.sizes
  pub num_strings : IsPlaceOf (codes "Num Strings") (header_line S) places.num_strings
  pub strings : IsPlaceOf (codes "Strings") (header_line S) places.strings
