-- A walk through a tree: its nodes in the order of their bytes, and an end behind each group and row.
use Rattle.std.specs.Prelude.{ℕ, ◌+◌, Bool, true, false, List, [], ◌∷◌, ◌++◌}
use Rattle.nif_base.specs.Node.{Node, Members, Num, Line, Ref, Text, Bytes, Group, Row, End, Here, Absent}

-- what a walk meets: a node by itself, an absent member, or the end of a group or row
pub data Met : Type 0 where
  Leaf : (node : Node) → Met
  Opens : (is_row : Bool) → (count : ℕ) → Met
  LeftOut : Met
  Ends : Met

-- how many members or items there are, absent ones among them
abbrev pub count : Members → ℕ
count End = 0
count (Here node rest) = 1 + count rest
count (Absent rest) = 1 + count rest

abbrev mutual
  pub walk : Node → List Met
  walk (Num width little bits) = Leaf (Num width little bits) ∷ []
  walk (Line bytes) = Leaf (Line bytes) ∷ []
  walk (Ref strong wanted target) = Leaf (Ref strong wanted target) ∷ []
  walk (Text index) = Leaf (Text index) ∷ []
  walk (Bytes bytes) = Leaf (Bytes bytes) ∷ []
  walk (Group members) = Opens false (count members) ∷ walk_in members ++ Ends ∷ []
  walk (Row items) = Opens true (count items) ∷ walk_in items ++ Ends ∷ []

  pub walk_in : Members → List Met
  walk_in End = []
  walk_in (Here node rest) = walk node ++ walk_in rest
  walk_in (Absent rest) = LeftOut ∷ walk_in rest
