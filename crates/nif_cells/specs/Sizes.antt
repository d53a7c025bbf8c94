-- How many cells a node takes of its own, the one in the index of each of its references among them.
use Rattle.std.specs.Prelude.{ℕ, ◌+◌, ◌/◌, length}
use Rattle.nif_base.specs.Node.{Node, Members, Num, Line, Ref, Text, Bytes, Group, Row, End, Here, Absent}

abbrev mutual
  pub own_cells : Node → ℕ
  own_cells (Num width little bits) = 1
  own_cells (Line bytes) = 2 + length bytes / 8
  own_cells (Ref strong wanted target) = 2
  own_cells (Text index) = 1
  own_cells (Bytes bytes) = 2 + length bytes / 8
  own_cells (Group members) = 2 + own_cells_in members
  own_cells (Row items) = 2 + own_cells_in items

  pub own_cells_in : Members → ℕ
  own_cells_in End = 0
  own_cells_in (Here node rest) = own_cells node + own_cells_in rest
  own_cells_in (Absent rest) = 1 + own_cells_in rest
