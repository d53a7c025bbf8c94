-- What is kept of arrays and their items.
use Rattle.std.specs.Prelude.{Bool, true, false, List, [], ◌∷◌, length}
use Rattle.nif_base.specs.Node.{Node}
use Rattle.nif_scope.specs.declared.entries.Entry.{Entry}
use Rattle.nif_scope.specs.declared.entries.Entry.TheVariants as entry
use Rattle.nif_scope.specs.Told.{item_told}

-- an item, where items are asked for
abbrev pub item_kept : Bool → Node → List Entry
item_kept true node = item_told node ∷ []
item_kept false node = []

-- the entry of an array, before those of its items
abbrev pub row_head : Bool → List Entry → Entry
row_head true items = entry.Items (length items)
row_head false items = entry.Nothing
