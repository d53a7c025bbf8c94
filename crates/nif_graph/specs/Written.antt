-- The file that is written of a graph: each target is the place of its block, and the header says what the graph tells.
use Rattle.std.specs.Prelude.{ℕ, zero, suc, ◌+◌, ◌==◌, Bool, true, false, ◌&&◌, List, [], ◌∷◌, map, length, if◌then◌else◌, unwrap_or}
use Rattle.std.specs.Option.{option_map_or}
use Rattle.nif_base.specs.Node.{Node, Members, Num, Bytes, Group, Row, End, Here, Absent, retargeted, size}
use Rattle.nif_base.specs.File.{Block, File}
use Rattle.nif_base.specs.Graph.{Origin, Named, Graph}
use Rattle.nif_graph.specs.Graph.{place}
use Rattle.nif_graph.specs.declared.places.RolePlaces.{RolePlaces}

-- ---- what the header says of the blocks

-- the number of blocks, their sizes, and where the file has an index of types also the names of the types, and the
-- entry of each block
pub record Told : Type 0 where
  pub blocks : ℕ
  pub sizes : List ℕ
  pub types : List (List ℕ)
  pub index : List ℕ

-- a row of numbers of a width
abbrev pub numbers : ℕ → List ℕ → Members
numbers width [] = End
numbers width (n ∷ rest) = Here (Num width false n) (numbers width rest)

-- a row of strings, each its length in 32 bits and its bytes
abbrev pub strings : List (List ℕ) → Members
strings [] = End
strings (bytes ∷ rest) = Here (Group (Here (Num 4 false (length bytes)) (Here (Bytes bytes) End))) (strings rest)

-- the same number with these bits
abbrev pub with_bits : ℕ → Node → Node
with_bits bits (Num width little old) = Num width little bits
with_bits bits node = node

-- a row of these items in place of another
abbrev pub with_items : Members → Node → Node
with_items items (Row old) = Row items
with_items items node = node

-- What the header says of the blocks at these places, the others being as they are. The names of types and the index are
-- told where the file has an index.
abbrev pub told_at : RolePlaces → Bool → Told → ℕ → Node → Node
told_at places indexed told k node =
    if k == places.num_blocks then with_bits told.blocks node
    else if option_map_or (λ place. k == place) places.sizes false then with_items (numbers 4 told.sizes) node
    else if indexed && option_map_or (λ place. k == place) places.num_types false
    then with_bits (length told.types) node
    else if indexed && option_map_or (λ place. k == place) places.types false
    then with_items (strings told.types) node
    else if indexed && option_map_or (λ place. k == place) places.index false
    then with_items (numbers 2 told.index) node
    else node

-- each member by its place, counted from k on
abbrev pub by_place : (ℕ → Node → Node) → ℕ → Members → Members
by_place f k End = End
by_place f k (Here node rest) = Here (f k node) (by_place f (suc k) rest)
by_place f k (Absent rest) = Absent (by_place f (suc k) rest)

-- the members of a group, none of another node
abbrev pub members_of : Node → Members
members_of (Group members) = members
members_of _ = End

-- whether the member at a place is present
abbrev pub has_member : ℕ → Members → Bool
has_member k End = false
has_member zero (Here node rest) = true
has_member zero (Absent rest) = false
has_member (suc k) (Here node rest) = has_member k rest
has_member (suc k) (Absent rest) = has_member k rest

-- A file is indexed where its header has an index of types.
abbrev pub is_indexed : RolePlaces → Node → Bool
is_indexed places header = option_map_or (λ k. has_member k (members_of header)) places.index false

abbrev pub with_told : RolePlaces → Told → Node → Node
with_told places told (Group members) =
    Group (by_place (told_at places (is_indexed places (Group members)) told) 0 members)
with_told places told node = node

-- ---- a graph from a file, and a file from a graph

-- nothing is told
abbrev pub untold : Told
untold = record { blocks = 0; sizes = []; types = []; index = [] }

-- the header without what the graph tells
abbrev pub rest_of : RolePlaces → Node → Node
rest_of places header = with_told places untold header

-- what a graph tells
abbrev pub told_of : Graph → Told
told_of G = record {
  blocks = length G.blocks;
  sizes = map (λ (b : Named). size b.block.node) G.blocks;
  types = G.types;
  index = map (λ (b : Named). unwrap_or b.block.index 0) G.blocks;
}

-- the same block with the places of its targets for their names
abbrev pub block_placed : List Named → Block → Block
block_placed blocks block = record block { node = retargeted (λ name. place name blocks) block.node }

-- The file of a graph.
abbrev pub numbered : RolePlaces → Graph → File
numbered places G = record {
  header = retargeted (λ name. place name G.blocks) (with_told places (told_of G) G.header);
  blocks = map (λ (b : Named). block_placed G.blocks b.block) G.blocks;
  footer = retargeted (λ name. place name G.blocks) G.footer;
}

-- blocks under the names from one on
abbrev pub named_from : ℕ → List Block → List Named
named_from name [] = []
named_from name (block ∷ blocks) = record { name = name; block = block } ∷ named_from (suc name) blocks

-- The graph of a file, with what it says of itself and the names of its types: each block's name is its place.
abbrev pub graph_of : RolePlaces → Origin → List (List ℕ) → File → Graph
graph_of places origin types F = record {
  header = rest_of places F.header;
  origin = origin;
  types = types;
  blocks = named_from 0 F.blocks;
  footer = F.footer;
  next = length F.blocks;
}

-- ---- what the header says of each block

abbrev pub rows_of : Node → ℕ
rows_of (Row items) = 1
rows_of node = 0

-- how many items a member of the header has for each block: one where it is the row of the sizes or of the index, else none
abbrev pub rows_at : RolePlaces → Bool → ℕ → Node → ℕ
rows_at places indexed k node =
    if k == places.num_blocks then 0
    else if option_map_or (λ place. k == place) places.sizes false then rows_of node
    else if indexed && option_map_or (λ place. k == place) places.num_types false then 0
    else if indexed && option_map_or (λ place. k == place) places.types false then 0
    else if indexed && option_map_or (λ place. k == place) places.index false then rows_of node
    else 0

abbrev pub rows_from : RolePlaces → Bool → ℕ → Members → ℕ
rows_from places indexed k End = 0
rows_from places indexed k (Here node rest) = rows_at places indexed k node + rows_from places indexed (suc k) rest
rows_from places indexed k (Absent rest) = rows_from places indexed (suc k) rest

-- How many rows of a header have an item for each block: that of their sizes, and that of the index of types.
abbrev pub told_rows : RolePlaces → Node → ℕ
told_rows places header = rows_from places (is_indexed places header) 0 (members_of header)
