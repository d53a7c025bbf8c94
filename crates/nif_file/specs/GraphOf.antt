-- Which graph a file is read as.
use Rattle.std.specs.Prelude.{◌≡◌, codes, is_some, List, [], if◌then◌else◌}
use Rattle.nif_base.specs.File.{File}
use Rattle.nif_base.specs.Graph.{Origin}
use Rattle.nif_schema.specs.Declaration.{Name}
use Rattle.nif_schema.specs.Schema.{Schema}
use Rattle.nif_layout.specs.Earlier.{Env}
use Rattle.nif_graph.specs.State.{GraphState}
use Rattle.nif_graph.specs.Written.{graph_of, numbered}
use Rattle.nif_file.specs.Head.{member, number_of, version_in, bs_version, order_in, type_names}
use Rattle.nif_file.specs.Files.{IsFile, head_in, size_of, text_of}
use Rattle.nif_file.specs.Heads.{ArePlaces}

-- what a file says of itself, but for the number of its blocks
abbrev pub origin_in : Schema → Env → Origin
origin_in S E = record {
  version = version_in E;
  user = number_of (codes "User Version") E;
  bs = bs_version S E;
  order = order_in E;
  strings = number_of (codes "Num Strings") E;
}

-- the names of its types, where it is indexed
abbrev pub types_in : Env → List Name
types_in E = if is_some (member (codes "Block Type Index") E) then type_names E else []

-- A graph in memory is that of a file: the names of the blocks are their places, and the bytes are counted.
pub record IsGraphOf (S : Schema) (F : File) (state : GraphState) : Type 0 where
  pub places : ArePlaces S state.places
  pub graph : state.graph ≡ graph_of state.places (origin_in S (head_in S F)) (types_in (head_in S F)) F
  pub bytes : state.bytes ≡ size_of S F

-- What is written of a graph is a file, whose header says of itself what the graph does.
pub record IsWhole (S : Schema) (state : GraphState) : Type 0 where
  pub places : ArePlaces S state.places
  pub is : IsFile S (numbered state.places state.graph) (text_of S (numbered state.places state.graph))
  pub origin : state.graph.origin ≡ origin_in S (head_in S (numbered state.places state.graph))
