-- A value of a file as a tree of nodes, and the bytes that spell it.
use Rattle.std.specs.Prelude.{ℕ, zero, suc, ◌+◌, ◌/◌, ◌%◌, Bool, true, false, ◌||◌, None, Some, List, [], ◌∷◌, ◌++◌, length, max, reverse, option_and_then}
use Rattle.std.specs.declared.option.Option.{Option}
use Rattle.nif_base.specs.declared.orders.Order.{Order}
use Rattle.nif_base.specs.declared.orders.Order.TheVariants.{Little, Big}

mutual
  -- A node is a number, a line, a reference to a block, the index of a text, a run of bytes, a group of members or a
  -- row of items. A number has a width in bytes, and may be little in every file. A reference is strong or weak, and
  -- may want a type of block, by the number of its declaration. Its target is the place of a block, or none.
  pub data Node : Type 0 where
    Num : (width : ℕ) → (little : Bool) → (bits : ℕ) → Node
    Line : (bytes : List ℕ) → Node
    Ref : (strong : Bool) → (wanted : Option ℕ) → (target : Option ℕ) → Node
    Text : (index : Option ℕ) → Node
    Bytes : (bytes : List ℕ) → Node
    Group : (members : Members) → Node
    Row : (items : Members) → Node

  -- What a group or a row holds, one behind another: each is a node or, in a group, absent.
  pub data Members : Type 0 where
    End : Members
    Here : (node : Node) → (rest : Members) → Members
    Absent : (rest : Members) → Members

-- the lowest bytes of a number, the lowest first
abbrev pub low_first : ℕ → ℕ → List ℕ
low_first zero n = []
low_first (suc width) n = n % 256 ∷ low_first width (n / 256)

abbrev pub is_little : Order → Bool
is_little Little = true
is_little Big = false

-- the bytes of a number of a width, the lowest first where it is little, else the highest first
abbrev pub number : Bool → ℕ → ℕ → List ℕ
number true width n = low_first width n
number false width n = reverse (low_first width n)

-- what a place is spelled as, and none as 0xFFFFFFFF
abbrev pub place_or_none : Option ℕ → ℕ
place_or_none None = 0xFFFFFFFF
place_or_none (Some place) = place

abbrev mutual
  -- the bytes that spell a node, in the order of the file
  pub text : Order → Node → List ℕ
  text order (Num width little bits) = number (little || is_little order) width bits
  text order (Line bytes) = bytes ++ 0x0A ∷ []
  text order (Ref strong wanted target) = number (is_little order) 4 (place_or_none target)
  text order (Text index) = number (is_little order) 4 (place_or_none index)
  text order (Bytes bytes) = bytes
  text order (Group members) = texts order members
  text order (Row items) = texts order items

  pub texts : Order → Members → List ℕ
  texts order End = []
  texts order (Here node rest) = text order node ++ texts order rest
  texts order (Absent rest) = texts order rest

abbrev mutual
  -- how many bytes spell a node, whatever the order of the file
  pub size : Node → ℕ
  size (Num width little bits) = width
  size (Line bytes) = length bytes + 1
  size (Ref strong wanted target) = 4
  size (Text index) = 4
  size (Bytes bytes) = length bytes
  size (Group members) = size_in members
  size (Row items) = size_in items

  pub size_in : Members → ℕ
  size_in End = 0
  size_in (Here node rest) = size node + size_in rest
  size_in (Absent rest) = size_in rest

abbrev mutual
  -- how many nodes a node counts as, itself and each absent member with it
  pub nodes : Node → ℕ
  nodes (Num width little bits) = 1
  nodes (Line bytes) = 1
  nodes (Ref strong wanted target) = 1
  nodes (Text index) = 1
  nodes (Bytes bytes) = 1
  nodes (Group members) = 1 + nodes_in members
  nodes (Row items) = 1 + nodes_in items

  pub nodes_in : Members → ℕ
  nodes_in End = 0
  nodes_in (Here node rest) = nodes node + nodes_in rest
  nodes_in (Absent rest) = 1 + nodes_in rest

abbrev mutual
  -- how many groups lie one in another
  pub depth : Node → ℕ
  depth (Num width little bits) = 0
  depth (Line bytes) = 0
  depth (Ref strong wanted target) = 0
  depth (Text index) = 0
  depth (Bytes bytes) = 0
  depth (Group members) = 1 + depth_in members
  depth (Row items) = depth_in items

  pub depth_in : Members → ℕ
  depth_in End = 0
  depth_in (Here node rest) = max (depth node) (depth_in rest)
  depth_in (Absent rest) = depth_in rest

-- A reference of a node.
pub record Reference : Type 0 where
  pub strong : Bool
  pub wanted : Option ℕ
  pub target : Option ℕ

abbrev mutual
  -- the references in a node, in the order of its bytes
  pub refs : Node → List Reference
  refs (Num width little bits) = []
  refs (Line bytes) = []
  refs (Ref strong wanted target) = record { strong = strong; wanted = wanted; target = target } ∷ []
  refs (Text index) = []
  refs (Bytes bytes) = []
  refs (Group members) = refs_in members
  refs (Row items) = refs_in items

  pub refs_in : Members → List Reference
  refs_in End = []
  refs_in (Here node rest) = refs node ++ refs_in rest
  refs_in (Absent rest) = refs_in rest

abbrev mutual
  -- the same node, with each target put through f
  pub retargeted : (ℕ → Option ℕ) → Node → Node
  retargeted f (Num width little bits) = Num width little bits
  retargeted f (Line bytes) = Line bytes
  retargeted f (Ref strong wanted target) = Ref strong wanted (option_and_then f target)
  retargeted f (Text index) = Text index
  retargeted f (Bytes bytes) = Bytes bytes
  retargeted f (Group members) = Group (retargeted_in f members)
  retargeted f (Row items) = Row (retargeted_in f items)

  pub retargeted_in : (ℕ → Option ℕ) → Members → Members
  retargeted_in f End = End
  retargeted_in f (Here node rest) = Here (retargeted f node) (retargeted_in f rest)
  retargeted_in f (Absent rest) = Absent (retargeted_in f rest)
