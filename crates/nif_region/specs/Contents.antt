-- What a region holds: runs of cells under keys, and the run that is being built.
use Rattle.std.specs.Prelude.{ℕ, ◌+◌, ◌*◌, ◌≤◌, ◌≡◌, List, [], ◌∷◌, ◌++◌, length, Option, None, Some, if◌then◌else◌, nat_eq, slice_set, IsSome}
use Rattle.nif_region.specs.declared.cells.Cell.{Cell}

-- The live runs with their keys, in the order in which they were ended; the cells of the run that is being built,
-- or none; how many cells are in use, dead ones and those at the head of each run among them; and how many more
-- cells and runs are sure to take no memory.
pub record Contents : Type 0 where
  pub runs : List (ℕ × List Cell)
  pub building : Option (List Cell)
  pub used : ℕ
  pub spare_cells : ℕ
  pub spare_runs : ℕ

module _ {A : Type 0} where
  -- what stands under a key
  abbrev pub find : List (ℕ × A) → ℕ → Option A
  find [] key = None
  find (run ∷ rest) key = if nat_eq run.0 key then Some run.1 else find rest key

  -- all that stands under other keys
  abbrev pub without : ℕ → List (ℕ × A) → List (ℕ × A)
  without key [] = []
  without key (run ∷ rest) = if nat_eq run.0 key then without key rest else run ∷ without key rest

  -- the same with another value under a key that is there
  abbrev pub put : ℕ → A → List (ℕ × A) → List (ℕ × A)
  put key value [] = []
  put key value (run ∷ rest) = (run.0, if nat_eq run.0 key then value else run.1) ∷ put key value rest

  -- no two have one key
  abbrev pub AreApart : List (ℕ × A) → Type 0
  AreApart [] = Unit {0}
  AreApart (run ∷ rest) = (find rest run.0 ≡ None) × AreApart rest

-- a run has this key
abbrev pub IsLive : Contents → ℕ → Type 0
IsLive r key = IsSome (find r.runs key)

-- the cells of runs, one at the head of each among them
abbrev pub cells_of : List (ℕ × List Cell) → ℕ
cells_of [] = 0
cells_of (run ∷ rest) = (length run.1 + 1) + cells_of rest

-- the cells of the run that is being built, the one at its head among them
abbrev pub cells_built : Option (List Cell) → ℕ
cells_built None = 0
cells_built (Some cells) = length cells + 1

-- the run that is being built, with one more cell
abbrev pub pushed : Option (List Cell) → Cell → Option (List Cell)
pushed None cell = None
pushed (Some cells) cell = Some (cells ++ cell ∷ [])

-- the run that is being built, with another cell at a place
abbrev pub patched : Option (List Cell) → ℕ → Cell → Option (List Cell)
patched None place cell = None
patched (Some cells) place cell = Some (slice_set cells place cell)

-- the runs with the one that is being built behind them, under a key
abbrev pub ended : List (ℕ × List Cell) → ℕ → Option (List Cell) → List (ℕ × List Cell)
ended runs key None = runs
ended runs key (Some cells) = runs ++ (key, cells) ∷ []

-- so many cells at most are in use
abbrev pub IsBounded : Contents → Type 0
IsBounded r = r.used ≤ 2 * cells_of r.runs + cells_built r.building

-- no cell is dead
abbrev pub IsCompact : Contents → Type 0
IsCompact r = r.used ≡ cells_of r.runs + cells_built r.building

-- the spare room falls by at most so many cells and runs
pub record SpareFalls (old new : Contents) (cells runs : ℕ) : Type 0 where
  pub cells_left : old.spare_cells ≤ new.spare_cells + cells
  pub runs_left : old.spare_runs ≤ new.spare_runs + runs

-- the spare room rises by at least so many cells and runs
pub record SpareRises (old new : Contents) (cells runs : ℕ) : Type 0 where
  pub cells_more : old.spare_cells + cells ≤ new.spare_cells
  pub runs_more : old.spare_runs + runs ≤ new.spare_runs
