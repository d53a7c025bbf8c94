-- How a basic is spelled, by its name, or else by its `size`.
use Rattle.std.specs.Prelude.{ℕ, [], List, codes, bytes_eq, if◌then◌else◌, unwrap_or, find}
use Rattle.std.specs.Borrow.{Bor}
use Rattle.std.specs.declared.option.Option.{Option}
use Rattle.std.specs.Option.{option_map}
use Rattle.nif_schema.specs.Declaration.{Name}
use Rattle.nif_schema.specs.Basic.{listed_leaf, unsigned}
use Rattle.nif_schema.specs.declared.decls.Leaf.{Leaf}
use Rattle.nif_schema.specs.declared.decls.Leaf.TheVariants as leaf

-- A basic whose name isn't listed is an unsigned number by its `size`, which is exactly 1, 2, 4 or 8, or can't be read.
unfoldable pub sized : List ℕ → Leaf
sized size =
    if bytes_eq size (codes "1") then unsigned 1
    else if bytes_eq size (codes "2") then unsigned 2
    else if bytes_eq size (codes "4") then unsigned 4
    else if bytes_eq size (codes "8") then unsigned 8
    else leaf.Unread

-- the leaf of a basic, which goes by its name where that is listed
unfoldable pub leaf_of : Name → Option (List ℕ) → Leaf
leaf_of name size = unwrap_or (listed_leaf name) (sized (unwrap_or size []))

-- a row of a table as plain data
abbrev pub row_of : Bor (List ℕ) × Leaf → Name × Leaf
row_of row = (row.0.now, row.1)

-- the leaf of the first row that has this name
abbrev pub leaf_in : Name → List (Name × Leaf) → Option Leaf
leaf_in name rows = option_map (λ row. row.1) (find (λ row. bytes_eq name row.0) rows)
