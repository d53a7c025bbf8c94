-- How a region keeps its runs in one vector: each is a cell at its head and its own cells behind it, in the order
-- in which they were ended, live or dead; the run that is being built is last. The head has the kind 1 where the run
-- is live, and then its key, else 0; and the number of the run's own cells.
use Rattle.std.specs.Prelude.{ℕ, zero, suc, ◌+◌, ◌-◌, ◌*◌, ◌<◌, ◌≤◌, ◌≡◌, ◌^◌, List, [], ◌∷◌, ◌++◌, length, take, drop, min, Option, None, Some, if◌then◌else◌, nat_eq}
use Rattle.slab.specs.Slab.{Slab, get, slab_len}
use Rattle.nif_region.specs.Contents.{Contents, AreApart, cells_of}
use Rattle.nif_region.specs.declared.cells.Cell.{Cell}

-- a run that was ended, live under a key or dead, with its own cells
pub data Segment : Type 0 where
  Live : ℕ → List Cell → Segment
  Dead : List Cell → Segment

abbrev pub head : Segment → Cell
head (Live key cells) = record { kind = 1; size = length cells; bits = key }
head (Dead cells) = record { kind = 0; size = length cells; bits = 0 }

abbrev pub own : Segment → List Cell
own (Live key cells) = cells
own (Dead cells) = cells

abbrev pub layout : List Segment → List Cell
layout [] = []
layout (segment ∷ rest) = head segment ∷ own segment ++ layout rest

-- the live ones
abbrev pub live_runs : List Segment → List (ℕ × List Cell)
live_runs [] = []
live_runs (Live key cells ∷ rest) = (key, cells) ∷ live_runs rest
live_runs (Dead cells ∷ rest) = live_runs rest

-- the place of the head of a live one, where the first of them stands at a place
abbrev pub place_of : List Segment → ℕ → ℕ → Option ℕ
place_of [] key at = None
place_of (Live k cells ∷ rest) key at = if nat_eq k key then Some at else place_of rest key (at + suc (length cells))
place_of (Dead cells ∷ rest) key at = place_of rest key (at + suc (length cells))

-- cells read as runs, at most so many
abbrev pub segments : ℕ → List Cell → List Segment
segments zero cells = []
segments (suc more) [] = []
segments (suc more) (c ∷ rest) = (if nat_eq c.kind 1 then Live c.bits (take c.size rest)
    else Dead (take c.size rest)) ∷ segments more (drop c.size rest)

-- the live runs in cells of which the last so many are being built
abbrev pub runs_in : ℕ → List Cell → List (ℕ × List Cell)
runs_in building cells = live_runs (segments (length cells) (take (length cells - building) cells))

-- the own cells of the run that is being built
abbrev pub built_in : ℕ → List Cell → Option (List Cell)
built_in zero cells = None
built_in (suc more) cells = Some (drop (length cells - more) cells)

abbrev pub contents : List Cell → ℕ → Slab ℕ → ℕ → Contents
contents cells capacity places building = record {
  runs = runs_in building cells;
  building = built_in building cells;
  used = length cells;
  spare_cells = capacity - length cells;
  spare_runs = places.capacity - (slab_len places + min building 1);
}

-- the cells are such runs, and the places are those of the live ones
pub record IsLaid (building : ℕ) (cells : List Cell) (places : Slab ℕ) : Type 0 where
  pub ended : List Segment
  pub last : List Cell
  pub cells_are : cells ≡ layout ended ++ last
  pub last_are : length last ≡ building
  pub places_are : (key : ℕ) → get places key ≡ place_of ended key 0
  pub apart : AreApart (live_runs ended)

pub record IsKept (cells : List Cell) (places : Slab ℕ) (live building : ℕ) : Type 0 where
  pub laid : IsLaid building cells places
  pub live_are : live ≡ cells_of (runs_in building cells)
  pub bound : length cells ≤ 2 * live + building
  pub fits : building < 2 ^ 32
  pub room : slab_len places + min building 1 ≤ places.capacity

-- after a slide no cell is dead, and the runs are as before
pub record Slides (building : ℕ) (old : List Cell) (old_places : Slab ℕ) (new : List Cell)
    (new_places : Slab ℕ) : Type 0 where
  pub laid : IsLaid building new new_places
  pub same_runs : runs_in building new ≡ runs_in building old
  pub same_building : built_in building new ≡ built_in building old
  pub compact : length new ≡ cells_of (runs_in building old) + building
  pub same_keys : slab_len new_places ≡ slab_len old_places
  pub same_capacity : new_places.capacity ≡ old_places.capacity
