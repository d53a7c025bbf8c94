-- A tree that is being built: what stands of it, and what each call of a builder makes of it.
use Rattle.std.specs.Prelude.{ℕ, ◌+◌, ◌-◌, ◌≡◌, List, [], ◌∷◌, ◌++◌, length, Option, None, Some, if◌then◌else◌, nat_lt}
use Rattle.nif_base.specs.Node.{Node, Members, Num, Line, Ref, Text, Bytes, Group, Row, End, Here, Absent, text, nodes, refs}
use Rattle.nif_base.specs.declared.orders.Order.TheVariants.{Little}

-- what is open in a tree that is being built, with all that it holds so far
pub data Level : Type 0 where
  InBytes : (bytes : List ℕ) → Level
  InGroup : (members : Members) → Level
  InRow : (items : Members) → Level

-- A tree that is being built: the node at its top, once it stands there, and what is open, the innermost first.
pub record Building : Type 0 where
  pub top : Option Node
  pub levels : List Level

-- how many bytes spell a node, in either order
abbrev pub bytes_of : Node → ℕ
bytes_of node = length (text Little node)

-- members with a node behind them
abbrev pub behind : Members → Node → Members
behind End last = Here last End
behind (Here node rest) last = Here node (behind rest last)
behind (Absent rest) last = Absent (behind rest last)

-- members with an absent one behind them
abbrev pub absent_behind : Members → Members
absent_behind End = Absent End
absent_behind (Here node rest) = Here node (absent_behind rest)
absent_behind (Absent rest) = Absent (absent_behind rest)

-- the node that an open level becomes
abbrev pub node_of : Level → Node
node_of (InBytes bytes) = Bytes bytes
node_of (InGroup members) = Group members
node_of (InRow items) = Row items

-- nothing stands yet
abbrev pub begun : Building
begun = record { top = None; levels = [] }

-- a node behind all that the innermost level holds, or at the top where none is open
abbrev pub placed : Node → List Level → Building
placed node [] = record { top = Some node; levels = [] }
placed node (InBytes bytes ∷ outer) = record { top = None; levels = InBytes bytes ∷ outer }
placed node (InGroup members ∷ outer) = record { top = None; levels = InGroup (behind members node) ∷ outer }
placed node (InRow items ∷ outer) = record { top = None; levels = InRow (behind items node) ∷ outer }

-- one more level is open
abbrev pub opened : Level → List Level → Building
opened level levels = record { top = None; levels = level ∷ levels }

-- the innermost level becomes a node
abbrev pub closed : List Level → Building
closed [] = begun
closed (level ∷ outer) = placed (node_of level) outer

-- an absent member behind those of what is open
abbrev pub left_out : List Level → Building
left_out [] = begun
left_out (InBytes bytes ∷ outer) = record { top = None; levels = InBytes bytes ∷ outer }
left_out (InGroup members ∷ outer) = record { top = None; levels = InGroup (absent_behind members) ∷ outer }
left_out (InRow items ∷ outer) = record { top = None; levels = InRow (absent_behind items) ∷ outer }

-- more bytes in the run of bytes that is open
abbrev pub lengthened : List ℕ → List Level → Building
lengthened more [] = begun
lengthened more (InBytes bytes ∷ outer) = record { top = None; levels = InBytes (bytes ++ more) ∷ outer }
lengthened more (InGroup members ∷ outer) = record { top = None; levels = InGroup members ∷ outer }
lengthened more (InRow items ∷ outer) = record { top = None; levels = InRow items ∷ outer }

-- no run of bytes is open, and no node stands at the top
abbrev pub TakesNode : Building → Type 0
TakesNode b = IsFree b.levels where
  IsFree : List Level → Type 0
  IsFree [] = b.top ≡ None
  IsFree (InBytes bytes ∷ outer) = ⊥
  IsFree (InGroup members ∷ outer) = Unit {0}
  IsFree (InRow items ∷ outer) = Unit {0}

-- a group is innermost
abbrev pub TakesAbsent : List Level → Type 0
TakesAbsent [] = ⊥
TakesAbsent (InBytes bytes ∷ outer) = ⊥
TakesAbsent (InGroup members ∷ outer) = Unit {0}
TakesAbsent (InRow items ∷ outer) = ⊥

-- a run of bytes is innermost
abbrev pub TakesBytes : List Level → Type 0
TakesBytes [] = ⊥
TakesBytes (InBytes bytes ∷ outer) = Unit {0}
TakesBytes (InGroup members ∷ outer) = ⊥
TakesBytes (InRow items ∷ outer) = ⊥

-- how many nodes stand in what is open, the open ones among them
abbrev pub nodes_open : List Level → ℕ
nodes_open [] = 0
nodes_open (level ∷ outer) = nodes (node_of level) + nodes_open outer

-- how many bytes spell what stands in what is open
abbrev pub bytes_open : List Level → ℕ
bytes_open [] = 0
bytes_open (level ∷ outer) = bytes_of (node_of level) + bytes_open outer

abbrev mutual
  -- the same node with another target of its k-th reference, counted from 0 in the order of its bytes
  pub with_target : ℕ → Option ℕ → Node → Node
  with_target k target (Num width little bits) = Num width little bits
  with_target k target (Line bytes) = Line bytes
  with_target k target (Ref strong wanted old) = Ref strong wanted target
  with_target k target (Text index) = Text index
  with_target k target (Bytes bytes) = Bytes bytes
  with_target k target (Group members) = Group (with_target_in k target members)
  with_target k target (Row items) = Row (with_target_in k target items)

  pub with_target_in : ℕ → Option ℕ → Members → Members
  with_target_in k target End = End
  with_target_in k target (Here node rest) =
      if nat_lt k (length (refs node)) then Here (with_target k target node) rest
      else Here node (with_target_in (k - length (refs node)) target rest)
  with_target_in k target (Absent rest) = Absent (with_target_in k target rest)
