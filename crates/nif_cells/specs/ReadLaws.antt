-- Cells are read as what they were made from.
use Rattle.std.proofs.Common.{ℕ, suc, ◌<◌, ◌≡◌, List, [], ◌∷◌, ◌++◌, Some, None, All, refl, sym, ◌∙◌, ap, append_assoc, append-nil}
use Rattle.nif_base.specs.Node.{Node, Members, End, Here, Absent, Num, Line, Ref, Text, Bytes, Group, Row, low_first}
use Rattle.nif_region.specs.declared.cells.Cell.{Cell}
use Rattle.nif_cells.specs.Building.{Building, Level, InBytes, InGroup, InRow, begun, placed, opened, behind, absent_behind}
use Rattle.nif_cells.specs.Encoding.{contents, contents_in, tree_contents, packed, words, byte_cells, index_from, places_from}
use Rattle.nif_cells.specs.Reading.{Reading, nothing_read, next_read, read_on, said, building_in, tree_in, top_of}
use Rattle.nif_cells.specs.Small.{HasBytes, HasBytesIn}
use Rattle.nif_cells.specs.Progress.{unpacked}
use Rattle.nif_cells.specs.declared.contents.Content.{Content}
use Rattle.nif_cells.specs.declared.contents.Content.TheVariants.{Tail}
use Rattle.nif_cells.specs.declared.contents.Content.TheVariants as content
use Rattle.nif_cells.specs.PackLaws.{unpacked_whole}

pub read_more : (r : Reading) (a b : List Content) → read_on r (a ++ b) ≡ read_on (read_on r a) b
read_more r [] b = refl
read_more r (c ∷ rest) b = read_more (next_read c r) rest b

pub read_index : (r : Reading) (number : ℕ) (places : List ℕ) → read_on r (index_from number places) ≡ r
read_index r number [] = refl
read_index r number (place ∷ rest) = read_index r (suc number) rest

-- what was read so far, with no line begun
abbrev clear : Building → Reading
clear b = record { building = b; line = None }

abbrev within : Level → List Level → Reading
within level outer = record { building = record { top = None; levels = level ∷ outer }; line = None }

-- full cells of bytes, of a run that is open
pub read_words : (before : List ℕ) (outer : List Level) (ws : List ℕ)
    → read_on (record { building = record { top = None; levels = InBytes before ∷ outer }; line = None }) (words ws)
    ≡ record { building = record { top = None; levels = InBytes (before ++ unpacked ws) ∷ outer }; line = None }
read_words before outer [] = ap (λ b. within (InBytes b) outer) (sym (append-nil before))
read_words before outer (w ∷ ws) =
    read_words (before ++ low_first 8 w) outer ws
    ∙ ap (λ b. within (InBytes b) outer) (append_assoc before (low_first 8 w) (unpacked ws))

-- full cells of the bytes of a line
pub line_words : (b : Building) (first : List ℕ) (ws : List ℕ)
    → read_on (record { building = b; line = Some first }) (words ws) ≡ record
    { building = b; line = Some (first ++ unpacked ws) }
line_words b first [] = ap (λ l. record { building = b; line = Some l }) (sym (append-nil first))
line_words b first (w ∷ ws) =
    line_words b (first ++ low_first 8 w) ws
    ∙ ap (λ l. record { building = b; line = Some l }) (append_assoc first (low_first 8 w) (unpacked ws))

-- all cells of a run of bytes
bytes_whole : (bytes : List ℕ) (b : Building) → All (λ b. b < 256) bytes
    → read_on (clear (opened (InBytes []) b.levels)) (byte_cells bytes) ≡ clear (placed (Bytes bytes) b.levels)
bytes_whole bytes b small =
    read_more (clear (opened (InBytes []) b.levels)) (words (packed bytes).words)
    (Tail (packed bytes).left (packed bytes).bits ∷ [])
    ∙ ap (λ r. next_read (Tail (packed bytes).left (packed bytes).bits) r) (read_words [] b.levels (packed bytes).words)
    ∙ ap (λ l. clear (placed (Bytes l) b.levels)) (unpacked_whole bytes small)

line_whole : (bytes : List ℕ) (b : Building) → All (λ b. b < 256) bytes
    → read_on (record { building = b; line = Some [] }) (byte_cells bytes) ≡ clear (placed (Line bytes) b.levels)
line_whole bytes b small =
    read_more (record { building = b; line = Some [] }) (words (packed bytes).words)
    (Tail (packed bytes).left (packed bytes).bits ∷ [])
    ∙ ap (λ r. next_read (Tail (packed bytes).left (packed bytes).bits) r) (line_words b [] (packed bytes).words)
    ∙ ap (λ l. clear (placed (Line l) b.levels)) (unpacked_whole bytes small)

-- the members behind those of a group or row that is open
abbrev pub joined : Members → Members → Members
joined first End = first
joined first (Here n rest) = joined (behind first n) rest
joined first (Absent rest) = joined (absent_behind first) rest

-- some members and then others
abbrev beside : Members → Members → Members
beside End more = more
beside (Here n rest) more = Here n (beside rest more)
beside (Absent rest) more = Absent (beside rest more)

beside_end : (first : Members) → beside first End ≡ first
beside_end End = refl
beside_end (Here n rest) = ap (λ m. Here n m) (beside_end rest)
beside_end (Absent rest) = ap (λ m. Absent m) (beside_end rest)

beside_behind : (first : Members) (n : Node) (more : Members)
    → beside (behind first n) more ≡ beside first (Here n more)
beside_behind End n more = refl
beside_behind (Here m rest) n more = ap (λ r. Here m r) (beside_behind rest n more)
beside_behind (Absent rest) n more = ap (λ r. Absent r) (beside_behind rest n more)

beside_absent : (first more : Members) → beside (absent_behind first) more ≡ beside first (Absent more)
beside_absent End more = refl
beside_absent (Here m rest) more = ap (λ r. Here m r) (beside_absent rest more)
beside_absent (Absent rest) more = ap (λ r. Absent r) (beside_absent rest more)

joined_beside : (first more : Members) → joined first more ≡ beside first more
joined_beside first End = sym (beside_end first)
joined_beside first (Here n rest) = joined_beside (behind first n) rest ∙ beside_behind first n rest
joined_beside first (Absent rest) = joined_beside (absent_behind first) rest ∙ beside_absent first rest

pub joined_whole : (members : Members) → joined End members ≡ members
joined_whole members = joined_beside End members

mutual
  node_whole : (n : Node) (b : Building) → HasBytes n → read_on (clear b) (contents n) ≡ clear (placed n b.levels)
  node_whole (Num width little bits) b small = refl
  node_whole (Line bytes) b small = line_whole bytes b small
  node_whole (Ref strong wanted target) b small = refl
  node_whole (Text index) b small = refl
  node_whole (Bytes bytes) b small = bytes_whole bytes b small
  node_whole (Group members) b small =
      read_more (clear (opened (InGroup End) b.levels)) (contents_in members) (content.End ∷ [])
      ∙ ap (λ r. next_read content.End r) (read_group End members b.levels small)
      ∙ ap (λ m. clear (placed (Group m) b.levels)) (joined_whole members)
  node_whole (Row items) b small =
      read_more (clear (opened (InRow End) b.levels)) (contents_in items) (content.End ∷ [])
      ∙ ap (λ r. next_read content.End r) (read_row End items b.levels small)
      ∙ ap (λ m. clear (placed (Row m) b.levels)) (joined_whole items)

  pub read_group : (first more : Members) (outer : List Level) → HasBytesIn more
      → read_on (record { building = record { top = None; levels = InGroup first ∷ outer }; line = None })
      (contents_in more) ≡ record {
        building = record {
          top = None;
          levels = InGroup
              (joined first more) ∷ outer;
        };
        line = None;
      }
  read_group first End outer small = refl
  read_group first (Here n rest) outer small =
      read_more (within (InGroup first) outer) (contents n) (contents_in rest)
      ∙ ap (λ r. read_on r (contents_in rest)) (node_whole n
      (record { top = None; levels = InGroup first ∷ outer }) small.0)
      ∙ read_group (behind first n) rest outer small.1
  read_group first (Absent rest) outer small = read_group (absent_behind first) rest outer small

  pub read_row : (first more : Members) (outer : List Level) → HasBytesIn more
      → read_on (record { building = record { top = None; levels = InRow first ∷ outer }; line = None })
      (contents_in more) ≡ record {
        building = record {
          top = None;
          levels = InRow
              (joined first more) ∷ outer;
        };
        line = None;
      }
  read_row first End outer small = refl
  read_row first (Here n rest) outer small =
      read_more (within (InRow first) outer) (contents n) (contents_in rest)
      ∙ ap (λ r. read_on r (contents_in rest)) (node_whole n
      (record { top = None; levels = InRow first ∷ outer }) small.0)
      ∙ read_row (behind first n) rest outer small.1
  read_row first (Absent rest) outer small = read_row (absent_behind first) rest outer small

pub read_node : (n : Node) (r : Reading) → HasBytes n → r.line ≡ None
    → read_on r (contents n) ≡ record { building = placed n r.building.levels; line = None }
read_node n r small line =
    ap (λ l. read_on (record { building = r.building; line = l }) (contents n)) line ∙ node_whole n r.building small

pub read_tree : (n : Node) → HasBytes n → building_in (tree_contents n) ≡ record { top = Some n; levels = [] }
read_tree n small =
    ap (λ r. r.building) (
    read_more nothing_read (contents n) (index_from 0 (places_from 0 (contents n)))
    ∙ read_index (read_on nothing_read (contents n)) 0 (places_from 0 (contents n))
    ∙ node_whole n begun small
    )

pub tree_known : (cells : List Cell) (n : Node) → said cells ≡ tree_contents n → HasBytes n → tree_in cells ≡ n
tree_known cells n says small = ap (λ cs. top_of (building_in cs).top) says ∙ ap (λ b. top_of b.top) (read_tree n small)
