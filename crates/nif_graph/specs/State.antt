-- What contracts see of a graph in memory.
use Rattle.std.specs.Prelude.{ℕ, ◌≡◌, ◌<◌, List, [], ◌∷◌, length, map, None, Some, unwrap_or, slice_get}
use Rattle.std.specs.declared.option.Option.{Option}
use Rattle.nif_base.specs.Node.{Node, Bytes, Reference}
use Rattle.nif_base.specs.File.{File, Block, nodes_of}
use Rattle.nif_base.specs.Graph.{Origin, Graph}
use Rattle.nif_region.specs.Contents as region
use Rattle.nif_schema.specs.declared.contexts.Context.{Context}
use Rattle.nif_value.specs.Trees.{Trees, IsLive}
use Rattle.nif_value.specs.declared.stores.TreeId.{TreeId}
use Rattle.nif_graph.specs.Graph.{reference}
use Rattle.nif_graph.specs.Written.{graph_of, numbered, is_indexed}
use Rattle.nif_graph.specs.declared.places.RolePlaces.{RolePlaces}
use Rattle.nif_graph.specs.declared.parts.BlockPart.{BlockPart}
use Rattle.nif_graph.specs.declared.parts.GraphParts.{GraphParts}

-- The graph, the places of the members of its header, its trees, how many bytes the file has that is written of it, and
-- the room that is there: for so many blocks of new names, and for a name of a type.
pub record GraphState : Type 0 where
  pub graph : Graph
  pub places : RolePlaces
  pub trees : Trees
  pub bytes : ℕ
  pub room : ℕ
  pub room_for_name : Option (List ℕ)

-- the node of a tree, and no bytes where there is none
abbrev pub node_at : Trees → TreeId → Node
node_at store tree = unwrap_or (region.find store.trees tree.run.key) (Bytes [])

-- what a file says of itself, with so many strings
abbrev pub origin_of : Context → ℕ → Origin
origin_of context strings = record {
  version = context.version.number;
  user = context.user;
  bs = context.bs;
  order = context.order;
  strings = strings;
}

-- ---- parts

abbrev pub block_in : Trees → BlockPart → Block
block_in store part = record { kind = part.kind; index = part.index_word; node = node_at store part.tree }

-- the file of the parts
abbrev pub file_in : GraphParts → File
file_in parts = record {
  header = node_at parts.store parts.header;
  blocks = map (block_in parts.store) parts.blocks;
  footer = node_at parts.store parts.footer;
}

-- the graph of the parts
abbrev pub graph_in : GraphParts → Graph
graph_in parts = graph_of parts.places (origin_of parts.context parts.strings) parts.types.items (file_in parts)

-- no key comes twice
abbrev pub Differ : List ℕ → Type 0
Differ [] = Unit {0}
Differ (key ∷ keys) = ((k : ℕ) → slice_get keys k ≡ Some key → ⊥) × Differ keys

-- the keys of all trees of the parts
abbrev pub keys_of : GraphParts → List ℕ
keys_of parts = parts.header.run.key ∷ parts.footer.run.key ∷ map (λ (b : BlockPart). b.tree.run.key) parts.blocks

-- Parts that make a graph: each tree is live and one part's alone, none is being built, each target is the place of a
-- block, and the nodes are counted.
pub record AreParts (parts : GraphParts) : Type 0 where
  pub live : (k key : ℕ) → slice_get (keys_of parts) k ≡ Some key → IsLive parts.store key
  pub apart : Differ (keys_of parts)
  pub idle : parts.store.building ≡ None
  pub aimed : (from : Option ℕ) (k : ℕ) (r : Reference) (target : ℕ) → reference (graph_in parts) from k ≡ Some r
      → r.target ≡ Some target → target < length parts.blocks
  pub indexed : parts.indexed ≡ is_indexed parts.places (node_at parts.store parts.header)
  pub nodes : parts.nodes ≡ nodes_of (numbered parts.places (graph_in parts))
