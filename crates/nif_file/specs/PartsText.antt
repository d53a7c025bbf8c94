-- The bytes of what is written of a graph, one part behind another.
use Rattle.std.specs.Prelude.{ℕ, zero, suc, ◌≡◌, ◌-◌, ◌<◌, ◌==◌, ◌||◌, ◌&&◌, Bool, true, false, codes, List, [], ◌∷◌, ◌++◌, length, None, Some, IsSome, slice_get, unwrap_or, if◌then◌else◌}
use Rattle.std.specs.declared.option.Option.{Option}
use Rattle.std.specs.Option.{option_map_or}
use Rattle.std.specs.List.{flat_map}
use Rattle.nif_base.specs.declared.orders.Order.{Order}
use Rattle.nif_base.specs.declared.orders.Order.TheVariants.{Little}
use Rattle.nif_base.specs.Node.{Node, Members, Num, Group, Row, End, Here, Absent, number, is_little, text, size, retargeted}
use Rattle.nif_base.specs.Graph.{Named, Graph}
use Rattle.nif_cells.specs.Walks.{Met, count, walk}
use Rattle.nif_cells.specs.declared.steps.Step.{Step}
use Rattle.nif_cells.specs.declared.steps.Step.TheVariants as step
use Rattle.nif_schema.specs.Declaration.{Name, Field}
use Rattle.nif_schema.specs.Schema.{Schema, find}
use Rattle.nif_schema.specs.Roles.{header_fields, is_named}
use Rattle.nif_value.specs.declared.stores.TreeId.{TreeId}
use Rattle.nif_value.specs.Walking.{walked}
use Rattle.nif_encode.specs.Texts.{behind_many}
use Rattle.nif_graph.specs.Graph.{place}
use Rattle.nif_graph.specs.State.{GraphState, node_at}
use Rattle.nif_graph.specs.Written.{Told, with_bits, with_items, numbers, strings, is_indexed, rest_of, numbered}
use Rattle.nif_graph.specs.declared.places.RolePlaces.{RolePlaces}
use Rattle.nif_file.specs.declared.encode_header.Telling.{Telling}
use Rattle.nif_file.specs.declared.encode_header.Telling.TheVariants as telling
use Rattle.nif_file.specs.Files.{name_of, name_where, has_zero_word, zero_where, sized_string}

-- how many fields stand up to and with the first of a name, all where there is none
abbrev pub up_to : Name → List Field → ℕ
up_to name [] = 0
up_to name (f ∷ fields) = if is_named name f then 1 else suc (up_to name fields)

-- ---- members of a group

-- the bytes of a member, none where it is absent
abbrev pub text_at : Order → ℕ → Members → List ℕ
text_at order k End = []
text_at order zero (Here node rest) = text order node
text_at order zero (Absent rest) = []
text_at order (suc k) (Here node rest) = text_at order k rest
text_at order (suc k) (Absent rest) = text_at order k rest

-- the bytes of so many members from this one on, one behind another
abbrev pub texts_from : Order → ℕ → ℕ → Members → List ℕ
texts_from order k zero members = []
texts_from order k (suc more) members = text_at order k members ++ texts_from order (suc k) more members

-- The bytes of the members of a group from one on, up to another.
abbrev pub members_text : Order → ℕ → ℕ → Node → List ℕ
members_text order from to (Group members) = texts_from order from (to - from) members
members_text order from to _ = []

-- The members of the header up to and with `Endian Type` are little, the others are in the order of the file.
abbrev pub header_part : List Field → Order → Node → List ℕ
header_part fields order header =
    members_text Little 0 (up_to (codes "Endian Type") fields) header
    ++ members_text order (up_to (codes "Endian Type") fields) (length fields) header

-- ---- what the graph tells in the header

-- what is told at a member, if anything is
abbrev pub telling_at : RolePlaces → Bool → ℕ → Option Telling
telling_at places indexed k =
    if k == places.num_blocks then Some telling.Blocks
    else if option_map_or (λ place. k == place) places.sizes false then Some telling.Sizes
    else if indexed && option_map_or (λ place. k == place) places.num_types false then Some telling.TypeCount
    else if indexed && option_map_or (λ place. k == place) places.types false then Some telling.Types
    else if indexed && option_map_or (λ place. k == place) places.index false then Some telling.Index
    else None

-- the node that says it
abbrev pub telling_node : Option Telling → Told → Node → Node
telling_node None told node = node
telling_node (Some telling.Blocks) told node = with_bits told.blocks node
telling_node (Some telling.Sizes) told node = with_items (numbers 4 told.sizes) node
telling_node (Some telling.TypeCount) told node = with_bits (length told.types) node
telling_node (Some telling.Types) told node = with_items (strings told.types) node
telling_node (Some telling.Index) told node = with_items (numbers 2 told.index) node

-- the step of an absent member
abbrev pub is_absent : Step → Bool
is_absent step.Absent = true
is_absent _ = false

-- the width of a number in bytes, and whether it is little in every file; those of a `uint` where a step is none
abbrev pub number_form : Step → ℕ × Bool
number_form (step.Num width little bits) = (width, little)
number_form _ = (4, false)

-- a number in place of the one that a step gives
abbrev pub count_text : ℕ → Step → Order → List ℕ
count_text n first order = number ((number_form first).1 || is_little order) (number_form first).0 n

-- the bytes of what the graph tells
abbrev pub telling_text : Graph → Telling → Step → Order → List ℕ
telling_text G telling.Blocks first order = count_text (length G.blocks) first order
telling_text G telling.TypeCount first order = count_text (length G.types) first order
telling_text G telling.Sizes first order =
    flat_map (λ (b : Named). number (is_little order) 4 (size b.block.node)) G.blocks
telling_text G telling.Types first order = flat_map (sized_string order) G.types
telling_text G telling.Index first order =
    flat_map (λ (b : Named). number (is_little order) 2 (unwrap_or b.block.index 0)) G.blocks

abbrev pub is_number : Node → Bool
is_number (Num width little bits) = true
is_number _ = false

abbrev pub is_row : Node → Bool
is_row (Row items) = true
is_row _ = false

-- A number is told in a number, and a list in a row.
abbrev pub Suits : Telling → Node → Type 0
Suits telling.Blocks node = is_number node ≡ true
Suits telling.TypeCount node = is_number node ≡ true
Suits telling.Sizes node = is_row node ≡ true
Suits telling.Types node = is_row node ≡ true
Suits telling.Index node = is_row node ≡ true

abbrev pub SuitsAt : Option Telling → Node → Type 0
SuitsAt None node = Unit {0}
SuitsAt (Some telling) node = Suits telling node

-- each present member from the one at k on suits what is told there
abbrev pub AllSuit : RolePlaces → Bool → ℕ → Members → Type 0
AllSuit places indexed k End = Unit {0}
AllSuit places indexed k (Here node rest) =
    SuitsAt (telling_at places indexed k) node × AllSuit places indexed (suc k) rest
AllSuit places indexed k (Absent rest) = AllSuit places indexed (suc k) rest

-- The first k members of a header that is kept were walked over; what the graph tells can stand in them.
pub record WalksHeader (state : GraphState) (members : Members) (k : ℕ) (ahead : List Met) : Type 0 where
  pub rest : rest_of state.places (Group members) ≡ state.graph.header
  pub suits : AllSuit state.places (is_indexed state.places state.graph.header) 0 members
  pub at : ahead ≡ behind_many k (walked (walk (Group members))).ahead

-- the header that is written
abbrev pub written_header : GraphState → Node
written_header state = (numbered state.places state.graph).header

-- ---- all parts

-- the bytes of a tree, each target as the place of its block
abbrev pub placed_text : GraphState → TreeId → List ℕ
placed_text state tree =
    text state.graph.origin.order (retargeted (λ name. place name state.graph.blocks) (node_at state.trees tree))

abbrev pub block_part : Schema → Graph → Named → List ℕ
block_part S G b =
    name_where b.block.index G.origin.order (name_of S b.block.kind)
    ++ (zero_where (has_zero_word G.origin.version)
    ++ text G.origin.order (retargeted (λ name. place name G.blocks) b.block.node))

abbrev pub graph_text : Schema → GraphState → List ℕ
graph_text S state =
    header_part (header_fields S) state.graph.origin.order (written_header state)
    ++ (flat_map (block_part S state.graph) state.graph.blocks
    ++ text state.graph.origin.order (numbered state.places state.graph).footer)

-- A node that is kept of the header is a group with a member for each field, and what the graph tells can stand there.
pub record IsKeptHeader (S : Schema) (state : GraphState) (header : Node) : Type 0 where
  pub members : Members
  pub group : header ≡ Group members
  pub suits : AllSuit state.places (is_indexed state.places state.graph.header) 0 members
  pub all : count members ≡ length (header_fields S)

-- What is told can stand in the header, and the types of all blocks are declared.
pub record CanPut (S : Schema) (state : GraphState) : Type 0 where
  pub declared : IsSome (find S (codes "Header"))
  pub header : (header : Node) → rest_of state.places header ≡ state.graph.header → IsKeptHeader S state header
  pub kinds : (k : ℕ) (b : Named) → slice_get state.graph.blocks k ≡ Some b → b.block.kind < length S
