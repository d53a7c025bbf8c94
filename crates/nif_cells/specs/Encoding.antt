-- How a node stands in cells: what they say, one behind another. Bytes stand eight to a cell, the first the lowest;
-- the cell behind them has those that are left, at most seven. A group or row ends with a cell of its own. Behind all
-- stand the places of its references, in their order.
use Rattle.std.specs.Prelude.{ℕ, Bool, true, false, suc, ◌+◌, ◌*◌, ◌^◌, List, [], ◌∷◌, ◌++◌, length, map, Option, if◌then◌else◌, nat_eq}
use Rattle.nif_base.specs.Node.{Node, Members, Num, Line, Ref, Text, Bytes, Group, Row, Here, Reference}
use Rattle.nif_base.specs.Node as node
use Rattle.nif_cells.specs.Walks.{count}
use Rattle.nif_cells.specs.declared.steps.RefView.{RefView}
use Rattle.nif_cells.specs.declared.contents.Content.{Content}
use Rattle.nif_cells.specs.declared.contents.Content.TheVariants.{Number, Word, Tail, Place}
use Rattle.nif_cells.specs.declared.contents.Content.TheVariants as content

-- Bytes packed so far: the full cells, and the bits and number of the bytes that are left.
pub record Packed : Type 0 where
  pub words : List ℕ
  pub bits : ℕ
  pub left : ℕ

-- one more byte
abbrev pub packed_more : Packed → ℕ → Packed
packed_more p byte =
    if nat_eq p.left 7 then record { words = p.words ++ (p.bits + byte * 256 ^ 7) ∷ []; bits = 0; left = 0 }
    else record { words = p.words; bits = p.bits + byte * 256 ^ p.left; left = suc p.left }

abbrev pub packed_from : Packed → List ℕ → Packed
packed_from p [] = p
packed_from p (byte ∷ rest) = packed_from (packed_more p byte) rest

abbrev pub packed : List ℕ → Packed
packed bytes = packed_from (record { words = []; bits = 0; left = 0 }) bytes

-- full cells of bytes
abbrev pub words : List ℕ → List Content
words bits = map (λ b. Word b) bits

-- the cells of bytes, the one with those that are left behind the full ones
abbrev pub byte_cells : List ℕ → List Content
byte_cells bytes = words (packed bytes).words ++ Tail (packed bytes).left (packed bytes).bits ∷ []

-- a reference as its cell says it
abbrev pub view_of : Reference → RefView
view_of r = record { strong = r.strong; wanted = r.wanted; target = r.target }

-- the same reference with another target
abbrev pub aimed : Option ℕ → RefView → RefView
aimed target view = record { strong = view.strong; wanted = view.wanted; target = target }

abbrev mutual
  pub contents : Node → List Content
  contents (Num width little bits) = Number width little bits ∷ []
  contents (Line bytes) = content.Line (length bytes) ∷ byte_cells bytes
  contents (Ref strong wanted target) =
      content.Reference (record { strong = strong; wanted = wanted; target = target }) ∷ []
  contents (Text index) = content.Text index ∷ []
  contents (Bytes bytes) = content.Bytes (length bytes) ∷ byte_cells bytes
  contents (Group members) = content.Group (count members) ∷ contents_in members ++ content.End ∷ []
  contents (Row items) = content.Row (count items) ∷ contents_in items ++ content.End ∷ []

  pub contents_in : Members → List Content
  contents_in node.End = []
  contents_in (Here n rest) = contents n ++ contents_in rest
  contents_in (node.Absent rest) = content.Absent ∷ contents_in rest

-- a cell that says a reference
abbrev pub is_reference : Content → Bool
is_reference (content.Reference view) = true
is_reference _ = false

-- the places of references among cells, where the first of them stands at a place
abbrev pub places_from : ℕ → List Content → List ℕ
places_from at [] = []
places_from at (c ∷ rest) = if is_reference c then at ∷ places_from (suc at) rest else places_from (suc at) rest

-- the cells that say these places, numbered from one above a number
abbrev pub index_from : ℕ → List ℕ → List Content
index_from number [] = []
index_from number (place ∷ rest) = Place (suc number) place ∷ index_from (suc number) rest

-- all that the cells of a tree say
abbrev pub tree_contents : Node → List Content
tree_contents n = contents n ++ index_from 0 (places_from 0 (contents n))
