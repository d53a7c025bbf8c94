-- The way of a walk through what cells say.
use Rattle.std.specs.Prelude.{ℕ, ◌+◌, ◌/◌, ◌^◌, ◌<◌, ◌≤◌, ◌≡◌, Bool, true, false, List, [], ◌∷◌, length, drop, Option, None, Some, IsSome}
use Rattle.nif_region.specs.Contents.{Contents, find}
use Rattle.nif_region.specs.declared.cells.Cell.{Cell}
use Rattle.nif_base.specs.Node.{Num, Ref, Text}
use Rattle.nif_cells.specs.Walks.{Met, Leaf, Opens, LeftOut, Ends}
use Rattle.nif_cells.specs.Progress.{IsFollowed}
use Rattle.nif_cells.specs.Reading.{said, met_in}
use Rattle.nif_cells.specs.declared.contents.Content.{Content}
use Rattle.nif_cells.specs.declared.contents.Content.TheVariants.{Word, Tail, Place}
use Rattle.nif_cells.specs.declared.contents.Content.TheVariants as content
use Rattle.nif_value.specs.Kept.{cells_in, walking_of}
use Rattle.nif_value.specs.Walking.{walked, next_step}
use Rattle.nif_value.specs.declared.walks.Span.{Span}
use Rattle.nif_value.specs.declared.walks.Move.{Move}

-- the cells of so many bytes come first
abbrev pub HasCells : ℕ → List Content → Type 0
HasCells len rest = IsFollowed (content.Bytes len) rest

-- Contents that a walk can go through: behind the head of a line or of a run of bytes stand the cells of so many bytes,
-- and those stand nowhere else; nothing is met behind the place of a reference. `true` inside the bytes.
abbrev pub IsWay : Bool → List Content → Type 0
IsWay true (Word bits ∷ rest) = IsWay true rest
IsWay true (Tail left bits ∷ rest) = IsWay false rest
IsWay true _ = ⊥
IsWay false [] = Unit {0}
IsWay false (content.Line len ∷ rest) = HasCells len rest × IsWay true rest
IsWay false (content.Bytes len ∷ rest) = HasCells len rest × IsWay true rest
IsWay false (Word bits ∷ rest) = ⊥
IsWay false (Tail left bits ∷ rest) = ⊥
IsWay false (Place number place ∷ rest) = met_in rest ≡ []
IsWay false (content.Number width little bits ∷ rest) = IsWay false rest
IsWay false (content.Reference view ∷ rest) = IsWay false rest
IsWay false (content.Text index ∷ rest) = IsWay false rest
IsWay false (content.Group members ∷ rest) = IsWay false rest
IsWay false (content.Row items ∷ rest) = IsWay false rest
IsWay false (content.Absent ∷ rest) = IsWay false rest
IsWay false (content.End ∷ rest) = IsWay false rest

-- what a cell by itself says that is met
abbrev pub plain_of : Content → Option Met
plain_of (content.Number width little bits) = Some (Leaf (Num width little bits))
plain_of (content.Reference view) = Some (Leaf (Ref view.strong view.wanted view.target))
plain_of (content.Text index) = Some (Leaf (Text index))
plain_of (content.Group members) = Some (Opens false members)
plain_of (content.Row items) = Some (Opens true items)
plain_of content.Absent = Some LeftOut
plain_of content.End = Some Ends
plain_of _ = None

-- the bits of a cell of bytes
abbrev pub bits_of : Content → ℕ
bits_of (Word bits) = bits
bits_of (Tail left bits) = bits
bits_of _ = 0

-- a cell stands at a place, and says this
pub record IsAt (cells : List Cell) (place : ℕ) (content : Content) : Type 0 where
  pub within : place < length cells
  pub is : said (drop place cells) ≡ content ∷ said (drop (place + 1) cells)

-- the cells of so many bytes stand at a place, and so many at most were copied
abbrev pub IsSpan : List Cell → Option Span → Type 0
IsSpan cells None = Unit {0}
IsSpan cells (Some span) =
    HasCells span.len (said (drop span.first cells)) × (span.copied ≤ span.len) × (span.first + span.len / 8 < 2 ^ 32)

-- a walk stands where a step begins, or at the end
pub record IsOnWay (region : Contents) (key next : ℕ) (span : Option Span) : Type 0 where
  pub live : IsSome (find region.runs key)
  pub within : next ≤ length (cells_in (find region.runs key))
  pub way : IsWay false (said (drop next (cells_in (find region.runs key))))
  pub copies : IsSpan (cells_in (find region.runs key)) span

-- one step further
pub record Moves (region : Contents) (key next : ℕ) (move : Move) : Type 0 where
  pub on_way : IsOnWay region key move.next move.bytes
  pub step : move.step ≡ next_step (met_in (said (drop next (cells_in (find region.runs key)))))
  pub new : walking_of region key move.next move.bytes
      ≡ walked (met_in (said (drop next (cells_in (find region.runs key)))))
