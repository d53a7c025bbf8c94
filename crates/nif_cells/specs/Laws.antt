-- The laws of cells.
use Rattle.std.specs.Prelude.{ℕ, ◌+◌, ◌*◌, ◌/◌, ◌≡◌, ◌≤◌, List, length, Option, None, Some, slice_get, slice_set}
use Rattle.nif_base.specs.Node.{Node, Reference, nodes, refs}
use Rattle.nif_region.specs.declared.cells.Cell.{Cell}
use Rattle.nif_cells.specs.Building.{Level, bytes_of, nodes_open, bytes_open, with_target}
use Rattle.nif_cells.specs.Walks.{walk}
use Rattle.nif_cells.specs.Encoding.{contents, tree_contents, places_from, view_of, aimed}
use Rattle.nif_cells.specs.Reading.{nothing_read, read_on, said, tree_in, met_in}
use Rattle.nif_cells.specs.Progress.{building_contents, in_cells}
use Rattle.nif_cells.specs.declared.contents.Content.TheVariants.{Place}
use Rattle.nif_cells.specs.declared.contents.Content.TheVariants as content

-- the cells of a node are read as that node
abbrev pub IsKnown : Node → Type 0
IsKnown n = (cells : List Cell) → said cells ≡ tree_contents n → tree_in cells ≡ n

-- a walk through the cells of a node meets what a walk through the node meets
abbrev pub IsMet : Node → Type 0
IsMet n = met_in (tree_contents n) ≡ walk n

-- at most two cells for each node and one for each eight bytes
abbrev pub IsFewCells : Node → Type 0
IsFewCells n = length (tree_contents n) ≤ 2 * nodes n + bytes_of n / 8

-- The k-th reference of a node: its cell, and behind all other cells, the one of the index with its place.
pub record IsIndexed (n : Node) (k : ℕ) : Type 0 where
  pub reference : Reference
  pub place : ℕ
  pub kth : slice_get (refs n) k ≡ Some reference
  pub index : slice_get (tree_contents n) (length (contents n) + k) ≡ Some (Place (k + 1) place)
  pub cell : slice_get (tree_contents n) place ≡ Some (content.Reference (view_of reference))

-- with another target in the cell of the k-th reference, the cells are those of the node with that target
abbrev pub TakesTarget : Node → ℕ → Option ℕ → Type 0
TakesTarget n k target =
    (place : ℕ) (reference : Reference) → slice_get (refs n) k ≡ Some reference
    → slice_get (places_from 0 (contents n)) k ≡ Some place
    → slice_set (tree_contents n) place (content.Reference (aimed target (view_of reference)))
    ≡ tree_contents (with_target k target n)

-- what is open is read from its cells; of a run of bytes, what stands in full cells
abbrev pub IsOpenKnown : List Level → Type 0
IsOpenKnown levels = read_on nothing_read (building_contents levels)
    ≡ record { building = record { top = None; levels = in_cells levels }; line = None }

-- at most so many cells, those that the index and the ends will take among them
abbrev pub IsFewOpen : List Level → Type 0
IsFewOpen levels = length (building_contents levels) + length (places_from 0 (building_contents levels)) + length levels
    ≤ 2 * nodes_open levels + bytes_open levels / 8
