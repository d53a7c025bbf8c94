-- What a store holds: trees of nodes under keys, and the tree that is being built.
use Rattle.std.specs.Prelude.{ℕ, ◌+◌, ◌*◌, ◌/◌, ◌≤◌, ◌≡◌, ◌≢◌, ◌⊎◌, List, [], ◌∷◌, length, Option, None, Some, IsSome, IsSomeAnd, ◌++◌}
use Rattle.std.specs.Option.{option_map}
use Rattle.nif_base.specs.Limits.{most_file_bytes, most_nodes}
use Rattle.nif_base.specs.Node.{Node, Reference, nodes}
use Rattle.nif_cells.specs.Building.{Building, Level, bytes_of, nodes_open, bytes_open}
use Rattle.nif_cells.specs.declared.steps.RefView.{RefView}
use Rattle.nif_region.specs.Contents.{find}

-- The trees with their keys, in the order in which they were finished; the tree that is being built, or none. And the
-- room that is there, so that no call asks for memory: of cells, for the tree that is being built, from its begin on,
-- and for those begun after it; and of trees that are yet to begin.
pub record Trees : Type 0 where
  pub trees : List (ℕ × Node)
  pub building : Option Building
  pub spare_cells : ℕ
  pub spare_trees : ℕ

-- a tree has this key
abbrev pub IsLive : Trees → ℕ → Type 0
IsLive s key = IsSome (find s.trees key)

-- so much of the node at the top, or nothing where none stands there
abbrev pub of_top : (Node → ℕ) → Option Node → ℕ
of_top f None = 0
of_top f (Some node) = f node

-- how many nodes a tree has that is being built, the open ones among them
abbrev pub nodes_built : Building → ℕ
nodes_built b = of_top nodes b.top + nodes_open b.levels

-- how many bytes spell what stands of it
abbrev pub bytes_built : Building → ℕ
bytes_built b = of_top bytes_of b.top + bytes_open b.levels

-- the cells that a tree may take, the one at the head of its run among them
abbrev pub most_cells : Node → ℕ
most_cells node = 2 * nodes node + bytes_of node / 8 + 1

-- the cells that a tree may take that is being built
abbrev pub most_cells_built : Option Building → ℕ
most_cells_built None = 0
most_cells_built (Some b) = 2 * nodes_built b + bytes_built b / 8 + 1

-- the tree that is being built, after a step on its levels
abbrev pub after : Option Building → (List Level → Building) → Option Building
after building step = option_map (λ b. step b.levels) building

-- a tree is not larger than any may be
pub record IsWithin (b : Building) : Type 0 where
  pub nodes_within : nodes_built b ≤ most_nodes
  pub bytes_within : bytes_built b ≤ most_file_bytes
  pub levels_within : length b.levels ≤ 256

-- a tree is being built that takes such a step, and is within the limits after it
pub record Takes (building : Option Building) (HasPlace : Building → Type 0)
    (step : List Level → Building) : Type 0 where
  pub place : IsSomeAnd building HasPlace
  pub limits : IsSomeAnd (after building step) IsWithin

-- something is open
abbrev pub IsOpen : Building → Type 0
IsOpen b = b.levels ≢ []

-- one node stands at the top, and nothing is open
abbrev pub IsWhole : Option Building → Type 0
IsWhole building = IsSomeAnd building (λ b. IsSome b.top × (b.levels ≡ []))

-- 1, 2, 4 or 8 bytes
abbrev pub IsWidth : ℕ → Type 0
IsWidth width = (width ≡ 1) ⊎ ((width ≡ 2) ⊎ ((width ≡ 4) ⊎ (width ≡ 8)))

-- the trees with a new one behind them, under a key
abbrev pub with_tree : List (ℕ × Node) → ℕ → Option Node → List (ℕ × Node)
with_tree trees key None = trees
with_tree trees key (Some node) = trees ++ (key, node) ∷ []

-- no room is lost
pub record SpareStays (old new : Trees) : Type 0 where
  pub cells_stay : old.spare_cells ≤ new.spare_cells
  pub trees_stay : old.spare_trees ≤ new.spare_trees

-- a reference as it is seen
abbrev pub reference_of : RefView → Reference
reference_of view = record { strong = view.strong; wanted = view.wanted; target = view.target }
