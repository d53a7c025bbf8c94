-- How a store keeps the tree that is being built: what its cells say, what is open, and the places of its references.
use Rattle.std.specs.Prelude.{ℕ, ◌+◌, ◌-◌, ◌≤◌, ◌≡◌, ◌^◌, List, [], ◌∷◌, ◌++◌, length, Option, None, Some}
use Rattle.nif_base.specs.Node.{Node}
use Rattle.nif_base.specs.Node as node
use Rattle.nif_region.specs.Contents.{Contents}
use Rattle.nif_region.specs.declared.cells.Cell.{Cell}
use Rattle.nif_cells.specs.Walks.{count}
use Rattle.nif_cells.specs.Building.{Building, Level, InBytes, InGroup, InRow, TakesNode, TakesAbsent}
use Rattle.nif_cells.specs.Reading.{said, next_read}
use Rattle.nif_cells.specs.Encoding.{packed, places_from}
use Rattle.nif_cells.specs.Small.{HasBytes}
use Rattle.nif_cells.specs.Progress.{contents_of, building_contents, IsOpenInside, HasBytesOpen}
use Rattle.nif_cells.specs.declared.contents.Content.{Content}
use Rattle.nif_cells.specs.declared.contents.Content.TheVariants.{Number, Word, Tail, Place}
use Rattle.nif_cells.specs.declared.contents.Content.TheVariants as content
use Rattle.nif_value.specs.Trees.{IsWithin}
use Rattle.nif_value.specs.declared.builders.Open.{Open}
use Rattle.nif_value.specs.declared.builders.Kind.{Kind}
use Rattle.nif_value.specs.declared.builders.Kind.TheVariants as kind

abbrev pub kind_of : Level → Kind
kind_of (InBytes bytes) = kind.Bytes
kind_of (InGroup members) = kind.Group
kind_of (InRow items) = kind.Row

-- how many bytes, members or items a level holds
abbrev pub size_of : Level → ℕ
size_of (InBytes bytes) = length bytes
size_of (InGroup members) = count members
size_of (InRow items) = count items

-- a level that holds nothing yet
abbrev pub empty : Kind → Level
empty kind.Bytes = InBytes []
empty kind.Group = InGroup node.End
empty kind.Row = InRow node.End

-- the head of a level that holds so many
abbrev pub head_said : Kind → ℕ → Content
head_said kind.Bytes n = content.Bytes n
head_said kind.Group n = content.Group n
head_said kind.Row n = content.Row n

-- the last cell of a level
abbrev pub end_said : Kind → ℕ → ℕ → Content
end_said kind.Bytes left bits = Tail left bits
end_said kind.Group left bits = content.End
end_said kind.Row left bits = content.End

-- what is kept of each level that is open, the outermost first
abbrev pub marks : List Level → List Open
marks [] = []
marks (level ∷ outer) =
    marks outer ++ record { kind = kind_of level; head = length (building_contents outer); count = size_of level } ∷ []

-- the innermost level holds so many more
abbrev pub counted : ℕ → List Open → List Open
counted more [] = []
counted more (open_ ∷ rest) = counted_last more open_ rest where
  counted_last : ℕ → Open → List Open → List Open
  counted_last n o [] = record { kind = o.kind; head = o.head; count = o.count + n } ∷ []
  counted_last n o (next ∷ rest) = o ∷ counted_last n next rest

-- the bytes of the run of bytes that is open, if any
abbrev pub bytes_inside : List Level → List ℕ
bytes_inside [] = []
bytes_inside (InBytes bytes ∷ outer) = bytes
bytes_inside (InGroup members ∷ outer) = []
bytes_inside (InRow items ∷ outer) = []

-- what stands at the top stands there alone
abbrev pub StandsAlone : Option Node → List Level → Type 0
StandsAlone None levels = Unit {0}
StandsAlone (Some top) levels = HasBytes top × (levels ≡ [])

-- Cells are those of a tree that is being built, and beside them is kept what is open and where its references are.
-- There is room for the ends of all that is open and for the places of the references.
pub record IsBuilt (tree : Building) (cells : List Cell) (open_levels : List Open) (references : List ℕ)
    (pushed left bits spare places : ℕ) : Type 0 where
  pub says : said cells ≡ contents_of tree
  pub levels_are : open_levels ≡ marks tree.levels
  pub references_are : references ≡ places_from 0 (said cells)
  pub pushed_are : pushed ≡ length cells
  pub left_is : left ≡ (packed (bytes_inside tree.levels)).left
  pub bits_are : bits ≡ (packed (bytes_inside tree.levels)).bits
  pub inside : IsOpenInside tree.levels
  pub alone : StandsAlone tree.top tree.levels
  pub has_bytes : HasBytesOpen tree.levels
  pub within : IsWithin tree
  pub room : length references + length open_levels ≤ spare
  pub room_levels : 256 ≤ places

-- a tree is being built of these cells, or none is
abbrev pub Stands : Option (List Cell) → List Open → List ℕ → ℕ → ℕ → ℕ → ℕ → ℕ → Type 0
Stands None open_levels references pushed left bits spare places =
    (open_levels ≡ []) × (references ≡ []) × (pushed ≡ 0) × (left ≡ 0) × (bits ≡ 0)
Stands (Some cells) open_levels references pushed left bits spare places =
    (tree : Building) × IsBuilt tree cells open_levels references pushed left bits spare places

-- what a cell that says this makes of what is open
abbrev pub added : Content → List Level → Building
added c levels = (next_read c (record { building = record { top = None; levels = levels }; line = None })).building

-- a cell by itself is a node, an absent member or the head of what is then open, and has its place in a tree
abbrev pub TakesContent : Content → Building → Type 0
TakesContent (Number width little bits) b = TakesNode b
TakesContent (content.Line len) b = ⊥
TakesContent (content.Reference view) b = TakesNode b
TakesContent (content.Text index) b = TakesNode b
TakesContent (content.Bytes len) b = ⊥
TakesContent (Word bits) b = ⊥
TakesContent (Tail left bits) b = ⊥
TakesContent (content.Group members) b = ⊥
TakesContent (content.Row items) b = ⊥
TakesContent content.Absent b = TakesAbsent b.levels
TakesContent content.End b = ⊥
TakesContent (Place number place) b = ⊥

-- the run that is being built has more cells, which say this
pub record Puts (old new : Contents) (more : List Content) : Type 0 where
  pub before : List Cell
  pub cells : List Cell
  pub was : old.building ≡ Some before
  pub is : new.building ≡ Some (before ++ cells)
  pub says : said cells ≡ more
  pub same_runs : new.runs ≡ old.runs
  pub spare_cells : old.spare_cells ≤ new.spare_cells + length more
  pub spare_runs : old.spare_runs ≤ new.spare_runs

-- so many more cells may be put
pub record MayPut (region : Contents) (more : ℕ) : Type 0 where
  pub before : List Cell
  pub is : region.building ≡ Some before
  pub few : length before + more ≤ 2 ^ 32 - 2
  pub room : more ≤ region.spare_cells
