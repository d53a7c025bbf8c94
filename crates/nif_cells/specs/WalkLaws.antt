-- A walk through cells meets the nodes that they were made from, in order.
use Rattle.std.proofs.Common.{ℕ, zero, suc, ◌+◌, ◌/◌, ◌≡◌, true, false, List, [], ◌∷◌, ◌++◌, length, drop, refl, sym, ◌∙◌, ap, append_assoc, append-nil}
use Rattle.std.proofs.lemmas.List.{drop_at}
use Rattle.nif_base.specs.Node.{Node, Members, End, Here, Absent, Num, Line, Ref, Text, Bytes, Group, Row}
use Rattle.nif_cells.specs.Walks.{Leaf, Opens, LeftOut, Ends, walk, walk_in, count}
use Rattle.nif_cells.specs.Encoding.{contents, contents_in, tree_contents, words, byte_cells, index_from, places_from, packed}
use Rattle.nif_cells.specs.Reading.{met_in}
use Rattle.nif_cells.specs.Small.{HasBytes, HasBytesIn}
use Rattle.nif_cells.specs.Progress.{IsHeaded, IsFollowed}
use Rattle.nif_cells.specs.declared.contents.Content.{Content}
use Rattle.nif_cells.specs.declared.contents.Content.TheVariants.{Tail}
use Rattle.nif_cells.specs.declared.contents.Content.TheVariants as content
use Rattle.nif_cells.specs.PackLaws.{bytes_at-cells, byte_cells-length}

pub met-words : (ws : List ℕ) (rest : List Content) → met_in (words ws ++ rest) ≡ met_in rest
met-words [] rest = refl
met-words (w ∷ ws) rest = met-words ws rest

pub met-bytes : (bytes : List ℕ) (rest : List Content) → met_in (byte_cells bytes ++ rest) ≡ met_in rest
met-bytes bytes rest =
    ap met_in (append_assoc (words (packed bytes).words) (Tail (packed bytes).left (packed bytes).bits ∷ []) rest)
    ∙ met-words (packed bytes).words (Tail (packed bytes).left (packed bytes).bits ∷ rest)

pub met-index : (number : ℕ) (places : List ℕ) → met_in (index_from number places) ≡ []
met-index number [] = refl
met-index number (place ∷ rest) = met-index (suc number) rest

-- members and the end behind them
closing : (members : Members) (rest : List Content)
    → met_in (contents_in members ++ content.End ∷ rest) ≡ walk_in members ++ Ends ∷ met_in rest
    → met_in ((contents_in members ++ content.End ∷ []) ++ rest) ≡ (walk_in members ++ Ends ∷ []) ++ met_in rest
closing members rest known =
    ap met_in (append_assoc (contents_in members) (content.End ∷ []) rest) ∙ known
    ∙ sym (append_assoc (walk_in members) (Ends ∷ []) (met_in rest))

mutual
  pub met-node : (n : Node) (rest : List Content) → HasBytes n → met_in (contents n ++ rest) ≡ walk n ++ met_in rest
  met-node (Num width little bits) rest small = refl
  met-node (Line bytes) rest small =
      ap (λ b. Leaf (Line b) ∷ met_in (byte_cells bytes ++ rest)) (bytes_at-cells bytes rest small)
      ∙ ap (λ m. Leaf (Line bytes) ∷ m) (met-bytes bytes rest)
  met-node (Ref strong wanted target) rest small = refl
  met-node (Text index) rest small = refl
  met-node (Bytes bytes) rest small =
      ap (λ b. Leaf (Bytes b) ∷ met_in (byte_cells bytes ++ rest)) (bytes_at-cells bytes rest small)
      ∙ ap (λ m. Leaf (Bytes bytes) ∷ m) (met-bytes bytes rest)
  met-node (Group members) rest small =
      ap (λ m. Opens false (count members) ∷ m) (closing members rest (met-members members (content.End ∷ rest) small))
  met-node (Row items) rest small =
      ap (λ m. Opens true (count items) ∷ m) (closing items rest (met-members items (content.End ∷ rest) small))

  pub met-members : (members : Members) (rest : List Content) → HasBytesIn members
      → met_in (contents_in members ++ rest) ≡ walk_in members ++ met_in rest
  met-members End rest small = refl
  met-members (Here n more) rest small =
      ap met_in (append_assoc (contents n) (contents_in more) rest) ∙ met-node n (contents_in more ++ rest) small.0
      ∙ ap (λ m. walk n ++ m) (met-members more rest small.1) ∙ sym (append_assoc (walk n) (walk_in more) (met_in rest))
  met-members (Absent more) rest small = ap (λ m. LeftOut ∷ m) (met-members more rest small)

pub met-tree : (n : Node) → HasBytes n → met_in (tree_contents n) ≡ walk n
met-tree n small =
    met-node n (index_from 0 (places_from 0 (contents n))) small
    ∙ ap (λ m. walk n ++ m) (met-index 0 (places_from 0 (contents n)))
    ∙ append-nil (walk n)

-- what stands behind the cells of bytes
pub behind-bytes : (bytes : List ℕ) (rest : List Content)
    → drop (length bytes / 8 + 1) (byte_cells bytes ++ rest) ≡ rest
behind-bytes bytes rest = drop_at (byte_cells bytes) rest (length bytes / 8 + 1) (byte_cells-length bytes)

followed : (c : Content) (rest more : List Content) → IsFollowed c rest → IsFollowed c (rest ++ more)
followed (content.Line len) rest more h =
    (h.0, h.1 ++ more, h.2, h.3, ap (λ l. l ++ more) h.4 ∙ append_assoc (byte_cells h.0) h.1 more)
followed (content.Bytes len) rest more h =
    (h.0, h.1 ++ more, h.2, h.3, ap (λ l. l ++ more) h.4 ∙ append_assoc (byte_cells h.0) h.1 more)
followed _ rest more h = tt

pub headed-append : (a b : List Content) → IsHeaded a → IsHeaded b → IsHeaded (a ++ b)
headed-append [] b ha hb = hb
headed-append (c ∷ rest) b ha hb = (followed c rest b ha.0, headed-append rest b ha.1 hb)

headed-words : (ws : List ℕ) → IsHeaded (words ws)
headed-words [] = tt
headed-words (w ∷ ws) = (tt, headed-words ws)

pub headed-bytes : (bytes : List ℕ) → IsHeaded (byte_cells bytes)
headed-bytes bytes = headed-append (words (packed bytes).words) (Tail (packed bytes).left (packed bytes).bits ∷ [])
    (headed-words (packed bytes).words) (tt, tt)

mutual
  pub headed-node : (n : Node) → HasBytes n → IsHeaded (contents n)
  headed-node (Num width little bits) small = (tt, tt)
  headed-node (Line bytes) small = ((bytes, [], refl, small, sym (append-nil (byte_cells bytes))), headed-bytes bytes)
  headed-node (Ref strong wanted target) small = (tt, tt)
  headed-node (Text index) small = (tt, tt)
  headed-node (Bytes bytes) small = ((bytes, [], refl, small, sym (append-nil (byte_cells bytes))), headed-bytes bytes)
  headed-node (Group members) small =
      (tt, headed-append (contents_in members) (content.End ∷ []) (headed-members members small) (tt, tt))
  headed-node (Row items) small =
      (tt, headed-append (contents_in items) (content.End ∷ []) (headed-members items small) (tt, tt))

  headed-members : (members : Members) → HasBytesIn members → IsHeaded (contents_in members)
  headed-members End small = tt
  headed-members (Here n rest) small =
      headed-append (contents n) (contents_in rest) (headed-node n small.0) (headed-members rest small.1)
  headed-members (Absent rest) small = (tt, headed-members rest small)

headed-index : (number : ℕ) (places : List ℕ) → IsHeaded (index_from number places)
headed-index number [] = tt
headed-index number (place ∷ rest) = (tt, headed-index (suc number) rest)

pub headed-tree : (n : Node) → HasBytes n → IsHeaded (tree_contents n)
headed-tree n small = headed-append (contents n) (index_from 0 (places_from 0 (contents n))) (headed-node n small)
    (headed-index 0 (places_from 0 (contents n)))

pub headed-drop : (k : ℕ) (cs : List Content) → IsHeaded cs → IsHeaded (drop k cs)
headed-drop zero cs h = h
headed-drop (suc k) [] h = tt
headed-drop (suc k) (c ∷ rest) h = headed-drop k rest h.1
