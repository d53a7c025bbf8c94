-- How a tree that is being built stands in cells. The head of what is open says 0 of its members or bytes, since their
-- number is not yet known; it is written there when it ends. Of a run of bytes that is open the last, at most seven,
-- stand in no cell yet.
use Rattle.std.specs.Prelude.{ℕ, ◌<◌, ◌≡◌, List, [], ◌∷◌, ◌++◌, length, flat_map, Option, None, Some, All}
use Rattle.nif_base.specs.Node.{Node, low_first}
use Rattle.nif_cells.specs.Walks.{count}
use Rattle.nif_cells.specs.Building.{Building, Level, InBytes, InGroup, InRow, node_of}
use Rattle.nif_cells.specs.Encoding.{packed, words, byte_cells, contents, contents_in}
use Rattle.nif_cells.specs.Small.{HasBytes}
use Rattle.nif_cells.specs.declared.contents.Content.{Content}
use Rattle.nif_cells.specs.declared.contents.Content.TheVariants.{Tail}
use Rattle.nif_cells.specs.declared.contents.Content.TheVariants as content

-- the bytes in full cells, the first of each the lowest
abbrev pub unpacked : List ℕ → List ℕ
unpacked bits = flat_map (λ b. low_first 8 b) bits

-- the head of what is open, before its number is known
abbrev pub head_of : Level → Content
head_of (InBytes bytes) = content.Bytes 0
head_of (InGroup members) = content.Group 0
head_of (InRow items) = content.Row 0

-- the head of what has ended
abbrev pub closed_head : Level → Content
closed_head (InBytes bytes) = content.Bytes (length bytes)
closed_head (InGroup members) = content.Group (count members)
closed_head (InRow items) = content.Row (count items)

-- what stands behind the head
abbrev pub held_contents : Level → List Content
held_contents (InBytes bytes) = words (packed bytes).words
held_contents (InGroup members) = contents_in members
held_contents (InRow items) = contents_in items

-- the last cell of what has ended
abbrev pub end_of : Level → Content
end_of (InBytes bytes) = Tail (packed bytes).left (packed bytes).bits
end_of (InGroup members) = content.End
end_of (InRow items) = content.End

-- the cells of all that is open
abbrev pub building_contents : List Level → List Content
building_contents [] = []
building_contents (level ∷ outer) = building_contents outer ++ head_of level ∷ held_contents level

-- the cells of the node at the top, if one stands there
abbrev pub top_contents : Option Node → List Content
top_contents None = []
top_contents (Some n) = contents n

-- The cells of a tree that is being built.
abbrev pub contents_of : Building → List Content
contents_of b = top_contents b.top ++ building_contents b.levels

-- a group or a row
abbrev pub HoldsNodes : Level → Type 0
HoldsNodes (InBytes bytes) = ⊥
HoldsNodes (InGroup members) = Unit {0}
HoldsNodes (InRow items) = Unit {0}

-- groups and rows alone
abbrev pub AreHolding : List Level → Type 0
AreHolding [] = Unit {0}
AreHolding (level ∷ outer) = HoldsNodes level × AreHolding outer

-- a run of bytes is open only innermost
abbrev pub IsOpenInside : List Level → Type 0
IsOpenInside [] = Unit {0}
IsOpenInside (level ∷ outer) = AreHolding outer

-- each byte of what is open is below 256
abbrev pub HasBytesOpen : List Level → Type 0
HasBytesOpen [] = Unit {0}
HasBytesOpen (level ∷ outer) = HasBytes (node_of level) × HasBytesOpen outer

-- what the full cells of what is open say: of a run of bytes those alone that stand in them
abbrev pub in_cells : List Level → List Level
in_cells [] = []
in_cells (InBytes bytes ∷ outer) = InBytes (unpacked (packed bytes).words) ∷ outer
in_cells (InGroup members ∷ outer) = InGroup members ∷ outer
in_cells (InRow items ∷ outer) = InRow items ∷ outer

-- a line or a run of so many bytes stands before its cells
abbrev pub IsFollowed : Content → List Content → Type 0
IsFollowed (content.Line len) rest =
    (bytes : List ℕ) × (behind : List Content) × (length bytes ≡ len) × All (λ b. b < 256) bytes
    × (rest ≡ byte_cells bytes ++ behind)
IsFollowed (content.Bytes len) rest =
    (bytes : List ℕ) × (behind : List Content) × (length bytes ≡ len) × All (λ b. b < 256) bytes
    × (rest ≡ byte_cells bytes ++ behind)
IsFollowed _ rest = Unit {0}

-- Behind each head of a line or of a run of bytes stand the cells of so many bytes.
abbrev pub IsHeaded : List Content → Type 0
IsHeaded [] = Unit {0}
IsHeaded (c ∷ rest) = IsFollowed c rest × IsHeaded rest
