-- The cells of a tree, counted.
use Rattle.std.proofs.Common.{ℕ, zero, suc, ◌≡◌, ◌+◌, ◌/◌, ◌≤◌, List, [], ◌∷◌, ◌++◌, length, take, Some, true, false, refl, sym, ◌∙◌, ap, arith, slice_get, length-append}
use Rattle.std.specs.List.{sum_by}
use Rattle.std.proofs.lemmas.List.Sums.{sum_by-append, sum_by-cons, sum_by_more, sum_by-take-le}
use Rattle.std.proofs.lemmas.Option.{get_or_from_slice_get, slice_get_within}
use Rattle.nif_base.specs.Node.{Node, Members, Num, Line, Ref, Text, Bytes, Group, Row, End, Here, Absent, nodes, nodes_in, text, texts, low_first, place_or_none}
use Rattle.nif_base.specs.declared.orders.Order.TheVariants.{Little}
use Rattle.nif_region.specs.declared.cells.Cell.{Cell}
use Rattle.nif_cells.specs.Building.{bytes_of}
use Rattle.nif_cells.specs.Walks.{count}
use Rattle.nif_cells.specs.Codes.{content_of}
use Rattle.nif_cells.specs.Encoding.{contents, contents_in, words, byte_cells, packed, index_from, places_from}
use Rattle.nif_cells.specs.Reading.{said, tree_in}
use Rattle.nif_cells.specs.declared.contents.Content.{Content}
use Rattle.nif_cells.specs.declared.contents.Content.TheVariants.{Tail}
use Rattle.nif_cells.specs.declared.contents.Content.TheVariants as content
use Rattle.nif_value.specs.Counts.{nodes_said, bytes_said}
use Rattle.nif_value.specs.Kept.{IsTree}

-- over cells as over what they say
over-said : (f : Content → ℕ) (cells : List Cell) → sum_by f (said cells) ≡ sum_by (λ c. f (content_of c)) cells
over-said f [] = refl
over-said f (c ∷ rest) = sum_by-cons f (content_of c) (said rest) ∙ ap (λ n. f (content_of c) + n) (over-said f rest) ∙ sym (sum_by-cons (λ x. f (content_of x)) c rest)

module _ (f : Content → ℕ) (no_words : (ws : List ℕ) → sum_by f (words ws) ≡ 0) (no_tail : (left bits : ℕ) → f (Tail left bits) ≡ 0) where
  no-cells : (bytes : List ℕ) → sum_by f (byte_cells bytes) ≡ 0
  no-cells bytes =
      let a = sum_by-append f (words (packed bytes).words) (Tail (packed bytes).left (packed bytes).bits ∷ []) in
      let b = no_words (packed bytes).words in
      let c = sum_by-cons f (Tail (packed bytes).left (packed bytes).bits) [] in
      let d = no_tail (packed bytes).left (packed bytes).bits in
      let e : sum_by f [] ≡ 0 = refl in
      omega arith

nodes-words : (ws : List ℕ) → sum_by nodes_said (words ws) ≡ 0
nodes-words [] = refl
nodes-words (w ∷ rest) = let a = sum_by-cons nodes_said (content.Word w) (words rest) in let b = nodes-words rest in omega arith

bytes-words : (ws : List ℕ) → sum_by bytes_said (words ws) ≡ 0
bytes-words [] = refl
bytes-words (w ∷ rest) = let a = sum_by-cons bytes_said (content.Word w) (words rest) in let b = bytes-words rest in omega arith

nodes-index : (number : ℕ) (places : List ℕ) → sum_by nodes_said (index_from number places) ≡ 0
nodes-index number [] = refl
nodes-index number (p ∷ rest) = let a = sum_by-cons nodes_said (content.Place (suc number) p) (index_from (suc number) rest) in let b = nodes-index (suc number) rest in omega arith

bytes-index : (number : ℕ) (places : List ℕ) → sum_by bytes_said (index_from number places) ≡ 0
bytes-index number [] = refl
bytes-index number (p ∷ rest) = let a = sum_by-cons bytes_said (content.Place (suc number) p) (index_from (suc number) rest) in let b = bytes-index (suc number) rest in omega arith

low-length : (width n : ℕ) → length (low_first width n) ≡ width
low-length zero n = refl
low-length (suc width) n = ap suc (low-length width (n / 256))

-- a group or row, with its end
wrapped : (f : Content → ℕ) (head last : Content) (inner : List Content) → sum_by f (head ∷ inner ++ last ∷ []) ≡ f head + (sum_by f inner + f last)
wrapped f head last inner =
    let a = sum_by-cons f head (inner ++ last ∷ []) in
    let b = sum_by-append f inner (last ∷ []) in
    let c = sum_by-cons f last [] in
    let d : sum_by f [] ≡ 0 = refl in
    omega arith

mutual
  nodes-node : (n : Node) → sum_by nodes_said (contents n) ≡ nodes n
  nodes-node (Num width little bits) = refl
  nodes-node (Line bytes) = let a = sum_by-cons nodes_said (content.Line (length bytes)) (byte_cells bytes) in let b = no-cells nodes_said nodes-words (λ l x. refl) bytes in omega arith
  nodes-node (Ref strong wanted target) = refl
  nodes-node (Text index) = refl
  nodes-node (Bytes bytes) = let a = sum_by-cons nodes_said (content.Bytes (length bytes)) (byte_cells bytes) in let b = no-cells nodes_said nodes-words (λ l x. refl) bytes in omega arith
  nodes-node (Group members) = let a = wrapped nodes_said (content.Group (count members)) content.End (contents_in members) in let b = nodes-members members in omega arith
  nodes-node (Row items) = let a = wrapped nodes_said (content.Row (count items)) content.End (contents_in items) in let b = nodes-members items in omega arith

  nodes-members : (m : Members) → sum_by nodes_said (contents_in m) ≡ nodes_in m
  nodes-members End = refl
  nodes-members (Here n rest) = let a = sum_by-append nodes_said (contents n) (contents_in rest) in let b = nodes-node n in let c = nodes-members rest in omega arith
  nodes-members (Absent rest) = let a = sum_by-cons nodes_said content.Absent (contents_in rest) in let b = nodes-members rest in omega arith

mutual
  bytes-node : (n : Node) → sum_by bytes_said (contents n) ≡ length (text Little n)
  bytes-node (Num width little bits) = sum_by-cons bytes_said (content.Number width little bits) [] ∙ (by little) where
    by : (l : _) → width + 0 ≡ length (text Little (Num width l bits))
    by true = let e = low-length width bits in omega arith
    by false = let e = low-length width bits in omega arith
  bytes-node (Line bytes) =
      let a = sum_by-cons bytes_said (content.Line (length bytes)) (byte_cells bytes) in
      let b = no-cells bytes_said bytes-words (λ l x. refl) bytes in
      let c = length-append bytes (10 ∷ []) in
      omega arith
  bytes-node (Ref strong wanted target) = sym (low-length 4 (place_or_none target))
  bytes-node (Text index) = sym (low-length 4 (place_or_none index))
  bytes-node (Bytes bytes) = let a = sum_by-cons bytes_said (content.Bytes (length bytes)) (byte_cells bytes) in let b = no-cells bytes_said bytes-words (λ l x. refl) bytes in omega arith
  bytes-node (Group members) = let a = wrapped bytes_said (content.Group (count members)) content.End (contents_in members) in let b = bytes-members members in omega arith
  bytes-node (Row items) = let a = wrapped bytes_said (content.Row (count items)) content.End (contents_in items) in let b = bytes-members items in omega arith

  bytes-members : (m : Members) → sum_by bytes_said (contents_in m) ≡ length (texts Little m)
  bytes-members End = refl
  bytes-members (Here n rest) =
      let a = sum_by-append bytes_said (contents n) (contents_in rest) in
      let b = bytes-node n in
      let c = bytes-members rest in
      let d = length-append (text Little n) (texts Little rest) in
      omega arith
  bytes-members (Absent rest) = let a = sum_by-cons bytes_said content.Absent (contents_in rest) in let b = bytes-members rest in omega arith

-- all the cells of a tree

pub nodes-tree : (cells : List Cell) → IsTree cells → sum_by (λ c. nodes_said (content_of c)) cells ≡ nodes (tree_in cells)
nodes-tree cells t =
    let n = tree_in cells in
    let a = sum_by-append nodes_said (contents n) (index_from 0 (places_from 0 (contents n))) in
    let b = nodes-node n in
    let c = nodes-index 0 (places_from 0 (contents n)) in
    let d = sym (over-said nodes_said cells) ∙ ap (sum_by nodes_said) t.says in
    omega arith

pub bytes-tree : (cells : List Cell) → IsTree cells → sum_by (λ c. bytes_said (content_of c)) cells ≡ bytes_of (tree_in cells)
bytes-tree cells t =
    let n = tree_in cells in
    let a = sum_by-append bytes_said (contents n) (index_from 0 (places_from 0 (contents n))) in
    let b = bytes-node n in
    let c = bytes-index 0 (places_from 0 (contents n)) in
    let d = sym (over-said bytes_said cells) ∙ ap (sum_by bytes_said) t.says in
    omega arith

-- one cell more
pub counted-more : (f : Cell → ℕ) (cells : List Cell) (k count : ℕ) (cell : Cell) → slice_get cells k ≡ Some cell → count ≡ sum_by f (take k cells) → (count + f cell ≡ sum_by f (take (k + 1) cells)) × (count + f cell ≤ sum_by f cells)
counted-more f cells k count cell at is =
    let l = slice_get_within cells k cell at in
    let e = get_or_from_slice_get cells k cell cell at in
    let m = sum_by_more f cells k cell l ∙ ap (λ c. sum_by f (take k cells) + f c) e in
    let s = sum_by-take-le f cells (k + 1) in
    (omega arith, omega arith)
