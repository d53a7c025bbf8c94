-- What stands in a graph when a block of a type is inserted.
use Rattle.std.specs.Prelude.{ℕ, Bool, ◌&&◌, ◌==◌, bytes_eq, if◌then◌else◌, None, Some, List, [], ◌∷◌, ◌++◌, length}
use Rattle.std.specs.declared.option.Option.{Option}
use Rattle.std.specs.List.{position_or_len}
use Rattle.nif_base.specs.Node.{Node}
use Rattle.nif_base.specs.Graph.{Graph}
use Rattle.nif_schema.specs.Declaration.{Name}
use Rattle.nif_layout.specs.Context.{Context}
use Rattle.nif_graph.specs.Changes.{added}
use Rattle.nif_graph.specs.Written.{is_indexed}
use Rattle.nif_graph.specs.declared.places.RolePlaces.{RolePlaces}

-- the context of the values in a file, of a block of this type or of the footer
abbrev pub context_of : Graph → Option ℕ → Context
context_of G owner = record {
  version = G.origin.version;
  user = G.origin.user;
  bs = G.origin.bs;
  order = G.origin.order;
  owner = owner;
  blocks = length G.blocks;
  strings = G.origin.strings;
}

-- the first entry of a name of a type; where there is none, the one that it gets behind the others
abbrev pub entry_of : Name → List Name → ℕ
entry_of kind types = position_or_len (bytes_eq kind) types

-- In a file that is indexed the name is appended where it isn't there.
abbrev pub is_appended : RolePlaces → Graph → Name → Bool
is_appended places G kind = is_indexed places G.header && entry_of kind G.types == length G.types

-- Where the file is indexed a block has its entry with high bit 0, which is no number of an entry.
abbrev pub entry_where : Bool → ℕ → Option ℕ
entry_where indexed entry = if indexed then Some entry else None

abbrev pub types_with : Bool → Name → List Name → List Name
types_with appended kind types = if appended then types ++ kind ∷ [] else types

-- A block of a type stands with this node at a place.
abbrev pub inserted : RolePlaces → Graph → Name → ℕ → ℕ → Node → Graph
inserted places G kind at number node = record (added G at (record {
  kind = number;
  index = entry_where (is_indexed places G.header) (entry_of kind G.types);
  node = node;
})) { types = types_with (is_appended places G kind) kind G.types }
