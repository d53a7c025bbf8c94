-- A file as plain data: the node of its header, its blocks in order, and the node of its footer.
use Rattle.std.specs.Prelude.{ℕ, ◌+◌, List, [], ◌∷◌}
use Rattle.std.specs.declared.option.Option.{Option}
use Rattle.nif_base.specs.Node.{Node, nodes}

-- A block: the number of the declaration of its type, its entry in the index of types where the file has one, and
-- its value.
pub record Block : Type 0 where
  pub kind : ℕ
  pub index : Option ℕ
  pub node : Node

pub record File : Type 0 where
  pub header : Node
  pub blocks : List Block
  pub footer : Node

abbrev pub block_nodes : List Block → ℕ
block_nodes [] = 0
block_nodes (block ∷ blocks) = nodes block.node + block_nodes blocks

-- how many nodes a file has in all, each absent member among them
abbrev pub nodes_of : File → ℕ
nodes_of F = nodes F.header + (block_nodes F.blocks + nodes F.footer)
