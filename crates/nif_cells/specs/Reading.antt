-- What cells say, read from the first to the last: each is a step of a tree that is being built.
use Rattle.std.specs.Prelude.{ℕ, List, [], ◌∷◌, ◌++◌, map, Option, None, Some, true, false}
use Rattle.nif_base.specs.Node.{Node, Num, Line, Ref, Text, Group, low_first}
use Rattle.nif_base.specs.Node as node
use Rattle.nif_region.specs.declared.cells.Cell.{Cell}
use Rattle.nif_cells.specs.Building.{Building, InBytes, InGroup, InRow, begun, placed, opened, closed, left_out, lengthened}
use Rattle.nif_cells.specs.Walks.{Met, Leaf, Opens, LeftOut, Ends}
use Rattle.nif_cells.specs.Codes.{content_of}
use Rattle.nif_cells.specs.declared.contents.Content.{Content}
use Rattle.nif_cells.specs.declared.contents.Content.TheVariants.{Number, Word, Tail, Place}
use Rattle.nif_cells.specs.declared.contents.Content.TheVariants as content

-- what was read so far, and of a line that is not yet whole its first bytes
pub record Reading : Type 0 where
  pub building : Building
  pub line : Option (List ℕ)

-- no cell was read
abbrev pub nothing_read : Reading
nothing_read = record { building = begun; line = None }

-- bytes of a full cell
abbrev pub more_read : List ℕ → Building → Option (List ℕ) → Reading
more_read bytes b None = record { building = lengthened bytes b.levels; line = None }
more_read bytes b (Some first) = record { building = b; line = Some (first ++ bytes) }

-- the last bytes of a line, or of the run of bytes that is open
abbrev pub last_read : List ℕ → Building → Option (List ℕ) → Reading
last_read bytes b None = record { building = closed (lengthened bytes b.levels).levels; line = None }
last_read bytes b (Some first) = record { building = placed (Line (first ++ bytes)) b.levels; line = None }

abbrev pub next_read : Content → Reading → Reading
next_read (Number width little bits) r = record {
  building = placed
      (Num width little bits) r.building.levels;
  line = r.line;
}
next_read (content.Line len) r = record { building = r.building; line = Some [] }
next_read (content.Reference view) r = record {
  building = placed
      (Ref view.strong view.wanted view.target) r.building.levels;
  line = r.line;
}
next_read (content.Text index) r = record { building = placed (Text index) r.building.levels; line = r.line }
next_read (content.Bytes len) r = record { building = opened (InBytes []) r.building.levels; line = r.line }
next_read (Word bits) r = more_read (low_first 8 bits) r.building r.line
next_read (Tail left bits) r = last_read (low_first left bits) r.building r.line
next_read (content.Group members) r = record { building = opened (InGroup node.End) r.building.levels; line = r.line }
next_read (content.Row items) r = record { building = opened (InRow node.End) r.building.levels; line = r.line }
next_read content.Absent r = record { building = left_out r.building.levels; line = r.line }
next_read content.End r = record { building = closed r.building.levels; line = r.line }
next_read (Place number place) r = r

abbrev pub read_on : Reading → List Content → Reading
read_on r [] = r
read_on r (c ∷ rest) = read_on (next_read c r) rest

-- what cells say
abbrev pub said : List Cell → List Content
said cells = map content_of cells

-- the tree that is being built, as its cells are read
abbrev pub building_in : List Content → Building
building_in contents = (read_on nothing_read contents).building

-- the node that stands at the top
abbrev pub top_of : Option Node → Node
top_of None = Group node.End
top_of (Some n) = n

-- The tree that cells say.
abbrev pub tree_in : List Cell → Node
tree_in cells = top_of (building_in (said cells)).top

-- the bytes in cells, up to the one with the last of them
abbrev pub bytes_at : List Content → List ℕ
bytes_at (Word bits ∷ rest) = low_first 8 bits ++ bytes_at rest
bytes_at (Tail left bits ∷ rest) = low_first left bits
bytes_at _ = []

-- what a walk through the cells meets
abbrev pub met_in : List Content → List Met
met_in [] = []
met_in (Number width little bits ∷ rest) = Leaf (Num width little bits) ∷ met_in rest
met_in (content.Line len ∷ rest) = Leaf (Line (bytes_at rest)) ∷ met_in rest
met_in (content.Reference view ∷ rest) = Leaf (Ref view.strong view.wanted view.target) ∷ met_in rest
met_in (content.Text index ∷ rest) = Leaf (Text index) ∷ met_in rest
met_in (content.Bytes len ∷ rest) = Leaf (node.Bytes (bytes_at rest)) ∷ met_in rest
met_in (content.Group members ∷ rest) = Opens false members ∷ met_in rest
met_in (content.Row items ∷ rest) = Opens true items ∷ met_in rest
met_in (content.Absent ∷ rest) = LeftOut ∷ met_in rest
met_in (content.End ∷ rest) = Ends ∷ met_in rest
met_in (Word bits ∷ rest) = met_in rest
met_in (Tail left bits ∷ rest) = met_in rest
met_in (Place number place ∷ rest) = met_in rest
