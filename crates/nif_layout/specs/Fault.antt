-- Places in a file, and why the value at one can't be read.
use Rattle.std.specs.Prelude.{ℕ, ◌≡◌, ◌+◌, ◌≤◌, List, ◌++◌, length}
use Rattle.nif_base.specs.Limits.{most_file_bytes, most_nodes}
use Rattle.nif_base.specs.declared.orders.Order.{Order}
use Rattle.nif_base.specs.Node.{Node, text, nodes}

-- The file ended, it has too many bytes, a line is too long, a reference or a text index is out of range, groups lie
-- too deep, or there are too many nodes; with the place, and the number that is out of range.
pub data Fault : Type 0 where
  Ended : (at : ℕ) → Fault
  TooLong : Fault
  LineTooLong : (at : ℕ) → Fault
  RefRange : (at : ℕ) → (value : ℕ) → Fault
  StringRange : (at : ℕ) → (value : ℕ) → Fault
  TooDeep : (at : ℕ) → Fault
  TooManyNodes : (at : ℕ) → Fault

-- A place in a file, with the nodes that were counted before it and the bytes from it on.
pub record Point : Type 0 where
  pub nodes : ℕ
  pub place : ℕ
  pub left : List ℕ

-- behind one more node, before its bytes
abbrev pub one_more : Point → Point
one_more at = record at { nodes = at.nodes + 1 }

-- These bytes stand at the first point, and the next one lies behind them and so many nodes, within the limits.
pub record Passes (bytes : List ℕ) (count : ℕ) (at next : Point) : Type 0 where
  pub here : at.left ≡ bytes ++ next.left
  pub place : next.place ≡ at.place + length bytes
  pub nodes : next.nodes ≡ at.nodes + count
  pub within : next.place ≤ most_file_bytes
  pub counted : next.nodes ≤ most_nodes

-- a node is spelled at the first point, and the next one lies behind it
abbrev pub Reads : Order → Node → Point → Point → Type 0
Reads order node at next = Passes (text order node) (nodes node) at next
