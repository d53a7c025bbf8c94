-- How a store keeps its trees: each in the cells of a run of a region.
use Rattle.std.specs.Prelude.{ℕ, ◌+◌, ◌*◌, ◌≤◌, ◌≡◌, List, [], ◌∷◌, map, min, drop, Option, None, Some, if◌then◌else◌, nat_lt, IfSome}
use Rattle.std.specs.Option.{option_map}
use Rattle.nif_base.specs.Limits.{most_file_bytes, most_nodes}
use Rattle.nif_base.specs.Node.{Node, low_first, nodes}
use Rattle.nif_region.specs.Contents.{Contents, cells_built, find}
use Rattle.nif_region.specs.declared.cells.Cell.{Cell}
use Rattle.nif_cells.specs.Building.{Building, lengthened, bytes_of}
use Rattle.nif_cells.specs.Reading.{said, building_in, tree_in, met_in, bytes_at}
use Rattle.nif_cells.specs.Encoding.{tree_contents}
use Rattle.nif_cells.specs.Small.{HasBytes}
use Rattle.nif_value.specs.Trees.{Trees}
use Rattle.nif_value.specs.Built.{Stands}
use Rattle.nif_value.specs.declared.builders.Open.{Open}
use Rattle.nif_value.specs.Walking.{Walking}
use Rattle.nif_value.specs.declared.walks.Span.{Span}

-- The cells of a run say the tree that is read from them, and it is not larger than any may be.
pub record IsTree (cells : List Cell) : Type 0 where
  pub says : said cells ≡ tree_contents (tree_in cells)
  pub has_bytes : HasBytes (tree_in cells)
  pub nodes_within : nodes (tree_in cells) ≤ most_nodes
  pub bytes_within : bytes_of (tree_in cells) ≤ most_file_bytes

-- so it is with each live run
abbrev pub AreTrees : List (ℕ × List Cell) → Type 0
AreTrees runs = (key : ℕ) → IfSome (find runs key) IsTree

-- each run read as a tree
abbrev pub trees_in : List (ℕ × List Cell) → List (ℕ × Node)
trees_in runs = map (λ run. (run.0, tree_in run.1)) runs

-- a tree that is being built, with the last bytes of the run that is open, which are in no cell yet
abbrev pub with_last : List ℕ → Building → Building
with_last [] b = b
with_last (byte ∷ rest) b = lengthened (byte ∷ rest) b.levels

abbrev pub building_of : ℕ → ℕ → List Cell → Building
building_of left bits cells = with_last (low_first left bits) (building_in (said cells))

-- room for cells, where so many levels and references have their places
abbrev pub spare_in : Contents → ℕ → ℕ → ℕ
spare_in region open_places reference_places =
    if nat_lt open_places 256 then 0 else min (region.spare_cells + cells_built region.building)
    (2 * reference_places + 1)

abbrev pub trees_of : Contents → ℕ → ℕ → ℕ → ℕ → Trees
trees_of region left bits open_places reference_places = record {
  trees = trees_in region.runs;
  building = option_map (building_of left bits) region.building;
  spare_cells = spare_in region open_places reference_places;
  spare_trees = region.spare_runs;
}

-- the cells of a run, or none
abbrev pub cells_in : Option (List Cell) → List Cell
cells_in None = []
cells_in (Some cells) = cells

-- the bytes of a span that were not copied
abbrev pub bytes_in : List Cell → Option Span → Option (List ℕ)
bytes_in cells span = option_map (λ s. drop s.copied (bytes_at (said (drop s.first cells)))) span

-- a walk on its way through a run
abbrev pub walking_of : Contents → ℕ → ℕ → Option Span → Walking
walking_of region key next span = record {
  ahead = met_in (said (drop next (cells_in (find region.runs key))));
  bytes = bytes_in (cells_in (find region.runs key)) span;
}

-- the runs are trees, and what is kept of the one that is being built is so
pub record IsKept (region : Contents) (open_levels : List Open) (references : List ℕ)
    (pushed left bits places : ℕ) : Type 0 where
  pub trees : AreTrees region.runs
  pub built : Stands region.building open_levels references pushed left bits region.spare_cells places
