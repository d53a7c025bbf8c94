-- What edits do to the blocks of a graph. Each is said of the list of blocks under their names; no place is counted anew.
use Rattle.std.specs.Prelude.{ℕ, suc, ◌≡◌, ◌==◌, None, Some, List, [], ◌∷◌, map, insert, if◌then◌else◌}
use Rattle.std.specs.declared.option.Option.{Option}
use Rattle.std.specs.Option.{option_map_or}
use Rattle.nif_base.specs.Node.{Node, retargeted}
use Rattle.nif_base.specs.File.{Block}
use Rattle.nif_base.specs.Graph.{Named, Graph}
use Rattle.nif_cells.specs.Building.{with_target}
use Rattle.nif_value.specs.Trees.{most_cells}
use Rattle.nif_graph.specs.Graph.{find, is_live}

-- the same block with another node
abbrev pub with_node : Block → Node → Block
with_node block node = record block { node = node }

-- the blocks but that of a name
abbrev pub without : ℕ → List Named → List Named
without name [] = []
without name (b ∷ blocks) = if name == b.name then blocks else b ∷ without name blocks

-- what is put in place of the block of a name
abbrev pub changed : ℕ → (Block → Block) → List Named → List Named
changed name f [] = []
changed name f (b ∷ blocks) = (if name == b.name then record b { block = f b.block } else b) ∷ changed name f blocks

-- the blocks of the names, in the order of the names
abbrev pub listed : List ℕ → List Named → List Named
listed [] blocks = []
listed (name ∷ names) blocks =
    option_map_or (λ block. record { name = name; block = block } ∷ listed names blocks) (find name blocks) (listed names blocks)

-- the same node, with each reference to the name empty
abbrev pub emptied : ℕ → Node → Node
emptied name = retargeted (λ target. if target == name then None else Some target)

-- in all blocks each reference to the name is empty
abbrev pub all_emptied : ℕ → List Named → List Named
all_emptied name = map (λ (b : Named). record b { block = with_node b.block (emptied name b.block.node) })

-- The block of a name is taken out, and each reference to it is empty, in blocks and footer.
abbrev pub taken_out : Graph → ℕ → Graph
taken_out G name = record G { blocks = all_emptied name (without name G.blocks); footer = emptied name G.footer }

-- A block stands at a place under the next name.
abbrev pub added : Graph → ℕ → Block → Graph
added G at block = record G { blocks = insert G.blocks at (record { name = G.next; block = block }); next = suc G.next }

-- The block of a name stands at a place, and the others keep their order.
abbrev pub moved : Graph → ℕ → ℕ → Graph
moved G name at =
    option_map_or (λ block. record G { blocks = insert (without name G.blocks) at (record { name = name; block = block }) })
    (find name G.blocks) G

-- The block of a name is another one; the name stays.
abbrev pub replaced : Graph → ℕ → Block → Graph
replaced G name block = record G { blocks = changed name (λ old. block) G.blocks }

-- A copy of the block of a name stands at a place under the next name.
abbrev pub copied : Graph → ℕ → ℕ → Graph
copied G name at = option_map_or (λ block. added G at block) (find name G.blocks) G

-- The block of a name is that of another name.
abbrev pub replaced_by : Graph → ℕ → ℕ → Graph
replaced_by G name other = option_map_or (λ block. replaced G name block) (find other G.blocks) G

-- the cells that a copy of the tree of a block may take
abbrev pub copy_cells : Graph → ℕ → ℕ
copy_cells G name = option_map_or (λ block. most_cells block.node) (find name G.blocks) 0

-- The blocks stand in the order of the names.
abbrev pub reordered : Graph → List ℕ → Graph
reordered G names = record G { blocks = listed names G.blocks }

-- Reference k of a block, or of the footer for no name, has another target.
abbrev pub targeted : Graph → Option ℕ → ℕ → Option ℕ → Graph
targeted G None k to = record G { footer = with_target k to G.footer }
targeted G (Some name) k to =
    record G { blocks = changed name (λ block. with_node block (with_target k to block.node)) G.blocks }

-- how often a name stands in a list
abbrev pub times : ℕ → List ℕ → ℕ
times name [] = 0
times name (other ∷ names) = if name == other then suc (times name names) else times name names

-- an order of the blocks: the name of each block once, and no other name
abbrev pub IsOrder : List ℕ → List Named → Type 0
IsOrder names blocks = (name : ℕ) → times name names ≡ (if is_live name blocks then 1 else 0)
