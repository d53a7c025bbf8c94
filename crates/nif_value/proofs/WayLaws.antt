-- A walk goes its way through the cells of a tree.
use Rattle.std.proofs.Common.{ℕ, zero, suc, ◌+◌, ◌-◌, ◌*◌, ◌/◌, ◌%◌, ◌^◌, ◌<◌, ◌≤◌, ◌≡◌, true, false, List, [], ◌∷◌, ◌++◌, length, take, drop, slice_get, set, None, Some, refl, sym, ◌∙◌, ap, subst, arith, inl, inr, ◌⊎◌, append_assoc, length-append}
use Rattle.std.proofs.lemmas.List.{drop-map, length-map, length-drop, drop_all}
use Rattle.std.proofs.Math.Nat.{div-div-eq-div-mul}
use Rattle.std.proofs.lemmas.Nat.{pow-add}
use Rattle.std.proofs.lemmas.Option.{slice_get_within}
use Rattle.nif_base.specs.Node.{Node, Members, Num, Line, Ref, Text, Bytes, Group, Row, End, Here, Absent, low_first}
use Rattle.nif_region.specs.Contents.{Contents, find}
use Rattle.nif_region.specs.declared.cells.Cell.{Cell}
use Rattle.nif_cells.specs.Codes.{content_of}
use Rattle.nif_cells.specs.Encoding.{contents, contents_in, tree_contents, words, byte_cells, packed, index_from, places_from}
use Rattle.nif_cells.specs.Reading.{said, met_in, bytes_at}
use Rattle.nif_cells.specs.Small.{HasBytes, HasBytesIn}
use Rattle.nif_cells.specs.declared.contents.Content.{Content}
use Rattle.nif_cells.specs.declared.contents.Content.TheVariants.{Word, Tail, Place}
use Rattle.nif_cells.specs.declared.contents.Content.TheVariants as content
use Rattle.nif_cells.specs.declared.steps.Step.TheVariants as step
use Rattle.nif_cells.specs.CellLaws.{met-bytes, met-index, bytes_at-cells, packed_left, byte_cells-length, behind-bytes}
use Rattle.nif_value.specs.Kept.{cells_in}
use Rattle.nif_value.specs.Walking.{walked, next_step}
use Rattle.nif_value.specs.Ways.{HasCells, IsWay, bits_of, IsAt, IsOnWay, Moves}

zero_more : (k : ℕ) → 0 + k ≡ k
zero_more k = omega arith

suc_more : (n k : ℕ) → suc n + k ≡ suc (n + k)
suc_more n k = omega arith

-- a cell stands at a place
pub at_place : (cells : List Cell) (place : ℕ) (cell : Cell) → slice_get cells place ≡ Some cell → IsAt cells place (content_of cell)
at_place [] place cell e = absurd (cc)
at_place (x ∷ rest) zero cell e =
    let same : x ≡ cell = cc in
    record { within = omega arith; is = ap (λ c. content_of c ∷ said rest) same }
at_place (x ∷ rest) (suc place) cell e = let there = at_place rest place cell e in record {
  within = omega (arith, there.within);
  is = there.is ∙ ap (λ n. content_of cell ∷ said (drop n (x ∷ rest))) (sym (suc_more place 1));
}

pub said_drop : (cells : List Cell) (n k : ℕ) → said (drop (n + k) cells) ≡ drop k (said (drop n cells))
said_drop cells zero k = ap (λ n. said (drop n cells)) (zero_more k) ∙ sym (drop-map content_of k cells)
said_drop [] (suc n) k = ap (λ n. said (drop {A = Cell} n [])) (suc_more n k) ∙ sym (drop_all k [] (omega arith))
said_drop (x ∷ rest) (suc n) k = ap (λ m. said (drop m (x ∷ rest))) (suc_more n k) ∙ said_drop rest n k

pub said_length : (cells : List Cell) (n : ℕ) → length (said (drop n cells)) ≡ length cells - n
said_length cells n = length-map (drop n cells) content_of ∙ length-drop n cells

pub met_length : (cs : List Content) → length (met_in cs) ≤ length cs
met_length [] = omega arith
met_length (content.Number width little bits ∷ rest) = omega (arith, met_length rest)
met_length (content.Line len ∷ rest) = omega (arith, met_length rest)
met_length (content.Reference view ∷ rest) = omega (arith, met_length rest)
met_length (content.Text index ∷ rest) = omega (arith, met_length rest)
met_length (content.Bytes len ∷ rest) = omega (arith, met_length rest)
met_length (content.Group members ∷ rest) = omega (arith, met_length rest)
met_length (content.Row items ∷ rest) = omega (arith, met_length rest)
met_length (content.Absent ∷ rest) = omega (arith, met_length rest)
met_length (content.End ∷ rest) = omega (arith, met_length rest)
met_length (Word bits ∷ rest) = omega (arith, met_length rest)
met_length (Tail left bits ∷ rest) = omega (arith, met_length rest)
met_length (Place number place ∷ rest) = omega (arith, met_length rest)

-- a walk has not more before it than there are cells
pub met_few : (cells : List Cell) (n most : ℕ) → length cells < most → length (met_in (said (drop n cells))) < most
met_few cells n most h = omega (arith, met_length (said (drop n cells)), said_length cells n)

way_words : (ws : List ℕ) (rest : List Content) → IsWay true (words ws ++ rest) → IsWay true rest
way_words [] rest h = h
way_words (w ∷ ws) rest h = way_words ws rest h

-- behind the cells of bytes the way goes on
pub way_behind : (bytes : List ℕ) (behind : List Content) → IsWay true (byte_cells bytes ++ behind) → IsWay false behind
way_behind bytes behind h =
    way_words (packed bytes).words (Tail (packed bytes).left (packed bytes).bits ∷ behind)
    (subst (IsWay true) (append_assoc (words (packed bytes).words) (Tail (packed bytes).left (packed bytes).bits ∷ []) behind) h)

words_way : (ws : List ℕ) (rest : List Content) → IsWay true rest → IsWay true (words ws ++ rest)
words_way [] rest h = h
words_way (w ∷ ws) rest h = words_way ws rest h

bytes_way : (bytes : List ℕ) (rest : List Content) → IsWay false rest → IsWay true (byte_cells bytes ++ rest)
bytes_way bytes rest h =
    subst (IsWay true) (sym (append_assoc (words (packed bytes).words) (Tail (packed bytes).left (packed bytes).bits ∷ []) rest))
    (words_way (packed bytes).words (Tail (packed bytes).left (packed bytes).bits ∷ rest) h)

mutual
  node_way : (n : Node) (rest : List Content) → HasBytes n → IsWay false rest → IsWay false (contents n ++ rest)
  node_way (Num width little bits) rest small h = h
  node_way (Line bytes) rest small h = ((bytes, rest, refl, small, refl), bytes_way bytes rest h)
  node_way (Ref strong wanted target) rest small h = h
  node_way (Text index) rest small h = h
  node_way (Bytes bytes) rest small h = ((bytes, rest, refl, small, refl), bytes_way bytes rest h)
  node_way (Group members) rest small h =
      subst (IsWay false) (sym (append_assoc (contents_in members) (content.End ∷ []) rest)) (members_way members (content.End ∷ rest) small h)
  node_way (Row items) rest small h =
      subst (IsWay false) (sym (append_assoc (contents_in items) (content.End ∷ []) rest)) (members_way items (content.End ∷ rest) small h)

  members_way : (members : Members) (rest : List Content) → HasBytesIn members → IsWay false rest → IsWay false (contents_in members ++ rest)
  members_way End rest small h = h
  members_way (Here n more) rest small h =
      subst (IsWay false) (sym (append_assoc (contents n) (contents_in more) rest)) (node_way n (contents_in more ++ rest) small.0 (members_way more rest small.1 h))
  members_way (Absent more) rest small h = members_way more rest small h

index_way : (number : ℕ) (places : List ℕ) → IsWay false (index_from number places)
index_way number [] = tt
index_way number (place ∷ rest) = met-index (suc number) rest

-- the cells of a tree are a way
pub tree_way : (n : Node) → HasBytes n → IsWay false (tree_contents n)
tree_way n small = node_way n (index_from 0 (places_from 0 (contents n))) small (index_way 0 (places_from 0 (contents n)))

-- the bytes behind a head, and what stands behind them
pub record Passes (cells : List Cell) (next len : ℕ) : Type 0 where
  pub within : next + (2 + len / 8) ≤ length cells
  pub way : IsWay false (said (drop (next + (2 + len / 8)) cells))
  pub met : met_in (said (drop (next + (2 + len / 8)) cells)) ≡ met_in (said (drop (next + 1) cells))
  pub count : length (bytes_at (said (drop (next + 1) cells))) ≡ len

pub passes : (cells : List Cell) (next len : ℕ) → next < length cells → HasCells len (said (drop (next + 1) cells)) → IsWay true (said (drop (next + 1) cells)) → Passes cells next len
passes cells next len h has way =
    let bytes = has.0 in
    let behind = has.1 in
    let length_is = has.2 in
    let small = has.3 in
    let is = has.4 in
    let further : next + (2 + len / 8) ≡ (next + 1) + (length bytes / 8 + 1) = omega (arith, length_is) in
    let rest : said (drop (next + (2 + len / 8)) cells) ≡ behind =
    ap (λ n. said (drop n cells)) further ∙ said_drop cells (next + 1) (length bytes / 8 + 1) ∙ ap (drop (length bytes / 8 + 1)) is ∙ behind-bytes bytes behind in
    record {
      within = omega (arith, length_is, said_length cells (next + 1), ap length is, length-append (byte_cells bytes) behind, byte_cells-length bytes);
      way = subst (IsWay false) (sym rest) (way_behind bytes behind (subst (IsWay true) is way));
      met = ap met_in rest ∙ sym (ap met_in is ∙ met-bytes bytes behind);
      count = ap (λ cs. length (bytes_at cs)) is ∙ ap length (bytes_at-cells bytes behind small) ∙ length_is;
    }

-- a byte of a number
low_at : (width n i : ℕ) → i < width → slice_get (low_first width n) i ≡ Some (n / 2 ^ (8 * i) % 256)
low_at zero n i h = absurd (omega arith)
low_at (suc width) n zero h = ap (λ m. Some (m % 256)) (omega arith)
low_at (suc width) n (suc i) h =
    low_at width (n / 256) i (omega arith)
    ∙ ap (λ m. Some (m % 256)) (div-div-eq-div-mul n 256 (2 ^ (8 * i)) ∙ ap (λ p. n / p) (sym (ap (λ e. 2 ^ e) (eight i) ∙ pow-add 2 8 (8 * i))))
  where
    eight : (i : ℕ) → 8 * suc i ≡ 8 + 8 * i
    eight i = omega arith

low_length : (width n : ℕ) → length (low_first width n) ≡ width
low_length zero n = refl
low_length (suc width) n = ap suc (low_length width (n / 256))

get_first : (xs ys : List ℕ) (k x : ℕ) → slice_get xs k ≡ Some x → slice_get (xs ++ ys) k ≡ Some x
get_first [] ys k x e = absurd (cc)
get_first (y ∷ xs) ys zero x e = e
get_first (y ∷ xs) ys (suc k) x e = get_first xs ys k x e

get_second : (xs ys : List ℕ) (k n : ℕ) → length xs ≡ n → slice_get (xs ++ ys) (n + k) ≡ slice_get ys k
get_second [] ys k zero e = ap (λ n. slice_get ys n) (zero_more k)
get_second [] ys k (suc n) e = absurd (cc)
get_second (x ∷ xs) ys k zero e = absurd (cc)
get_second (x ∷ xs) ys k (suc n) e = ap (λ m. slice_get (x ∷ (xs ++ ys)) m) (suc_more n k) ∙ get_second xs ys k n (omega (arith, e))

-- a byte stands in the cell of its eight
pub record IsByte (cs : List Content) (k : ℕ) : Type 0 where
  pub content : Content
  pub at : slice_get cs (k / 8) ≡ Some content
  pub is : slice_get (bytes_at cs) k ≡ Some (bits_of content / 2 ^ (8 * (k % 8)) % 256)

nth_later : (cs : List Content) (bits j : ℕ) → IsByte cs j → IsByte (Word bits ∷ cs) (8 + j)
nth_later cs bits j b =
    let eighth : (8 + j) / 8 ≡ suc (j / 8) = omega arith in
    let left : (8 + j) % 8 ≡ j % 8 = omega arith in
    record {
      content = b.content;
      at = ap (λ p. slice_get (Word bits ∷ cs) p) eighth ∙ b.at;
      is = get_second (low_first 8 bits) (bytes_at cs) j 8 refl ∙ b.is ∙ ap (λ p. Some (bits_of b.content / 2 ^ (8 * p) % 256)) (sym left);
    }

first_byte : (c : Content) (rest : List Content) (k : ℕ) (bytes : List ℕ) → k < 8 → bytes ≡ bytes_at (c ∷ rest) → slice_get bytes k ≡ Some (bits_of c / 2 ^ (8 * k) % 256) → IsByte (c ∷ rest) k
first_byte c rest k bytes h e is =
    let eighth : k / 8 ≡ 0 = omega (arith, h) in
    let left : k % 8 ≡ k = omega (arith, h) in
    record {
      content = c;
      at = ap (λ p. slice_get (c ∷ rest) p) eighth;
      is = ap (λ l. slice_get l k) (sym e) ∙ is ∙ ap (λ p. Some (bits_of c / 2 ^ (8 * p) % 256)) (sym left);
    }

short_way : (k n : ℕ) → (k < n) ⊎ ((j : ℕ) × (k ≡ n + j))
short_way k zero = inr (k, sym (zero_more k))
short_way zero (suc n) = inl (omega arith)
short_way (suc k) (suc n) = elim (short_way k n) [ inl l ↦ inl (omega (arith, l)) | inr e ↦ inr (e.0, omega (arith, e.1)) ]

byte_words : (ws : List ℕ) (left bits : ℕ) (behind : List Content) (k : ℕ) → left < 8 → k < length (bytes_at (words ws ++ Tail left bits ∷ behind)) → IsByte (words ws ++ Tail left bits ∷ behind) k
byte_words [] left bits behind k l h =
    let within : k < left = omega (arith, h, low_length left bits) in
    first_byte (Tail left bits) behind k (low_first left bits) (omega (arith, within, l)) refl (low_at left bits k within)
byte_words (w ∷ ws) left bits behind k l h = elim (short_way k 8) [
  | inl s ↦ first_byte (Word w) (words ws ++ Tail left bits ∷ behind) k (low_first 8 w ++ bytes_at (words ws ++ Tail left bits ∷ behind)) s refl (get_first (low_first 8 w) (bytes_at (words ws ++ Tail left bits ∷ behind)) k (w / 2 ^ (8 * k) % 256) (low_at 8 w k s))
  | inr e ↦
      let rest : List Content = words ws ++ Tail left bits ∷ behind in
      subst (IsByte (Word w ∷ rest)) (sym e.1)
      (nth_later rest w e.0 (byte_words ws left bits behind e.0 l (omega (arith, h, e.1, length-append (low_first 8 w) (bytes_at rest), low_length 8 w))))
]

-- each byte of a line or of a run of bytes stands in the cell of its eight
pub byte_in : (cs : List Content) (len k : ℕ) → HasCells len cs → k < len → IsByte cs k
byte_in cs len k has h =
    let bytes = has.0 in
    let behind = has.1 in
    let ws = (packed bytes).words in
    let last = Tail (packed bytes).left (packed bytes).bits in
    let is : cs ≡ words ws ++ last ∷ behind = has.4 ∙ append_assoc (words ws) (last ∷ []) behind in
    let count : length (bytes_at cs) ≡ len = ap (λ c. length (bytes_at c)) has.4 ∙ ap length (bytes_at-cells bytes behind has.3) ∙ has.2 in
    subst (λ c. IsByte c k) (sym is)
    (byte_words ws (packed bytes).left (packed bytes).bits behind k (packed_left bytes) (subst (λ n. k < n) (sym count ∙ ap (λ c. length (bytes_at c)) is) h))

-- the number of bytes of a span
pub span_count : (cs : List Content) (len : ℕ) → HasCells len cs → length (bytes_at cs) ≡ len
span_count cs len has = ap (λ c. length (bytes_at c)) has.4 ∙ ap length (bytes_at-cells has.0 has.1 has.3) ∙ has.2

-- one more byte is copied
pub copies_more : (src old : List ℕ) (i b : ℕ) → i < length old → slice_get src i ≡ Some b → set (take i src ++ drop i old) i b ≡ take (i + 1) src ++ drop (i + 1) old
copies_more [] old i b h e = absurd (cc)
copies_more (s ∷ src) [] i b h e = absurd (omega arith)
copies_more (s ∷ src) (o ∷ old) zero b h e = let same : s ≡ b = cc in ap (λ x. x ∷ old) (sym same)
copies_more (s ∷ src) (o ∷ old) (suc i) b h e =
    ap (λ l. s ∷ l) (copies_more src old i b (omega (arith, h)) e) ∙ ap (λ n. take n (s ∷ src) ++ drop n (o ∷ old)) (sym (suc_more i 1))

pub get_drop : {X : Type 0} (xs : List X) (n i : ℕ) → slice_get (drop n xs) i ≡ slice_get xs (n + i)
get_drop xs zero i = ap (λ n. slice_get xs n) (sym (zero_more i))
get_drop [] (suc n) i = refl
get_drop (x ∷ xs) (suc n) i = get_drop xs n i ∙ ap (λ m. slice_get (x ∷ xs) m) (sym (suc_more n i))

-- the cell of a content
pub cell_at : (cells : List Cell) (first k : ℕ) (c : Content) (cell : Cell) → slice_get (said (drop first cells)) k ≡ Some c → slice_get cells (first + k) ≡ Some cell → content_of cell ≡ c
cell_at cells first k c cell said_is is = said_at (drop first cells) k c cell said_is (get_drop cells first k ∙ is)
  where
    said_at : (cells : List Cell) (k : ℕ) (c : Content) (cell : Cell) → slice_get (said cells) k ≡ Some c → slice_get cells k ≡ Some cell → content_of cell ≡ c
    said_at [] k c cell p q = absurd (cc)
    said_at (x ∷ rest) zero c cell p q = let same : x ≡ cell = cc in ap content_of (sym same) ∙ unwrapped (content_of x) c p
      where
        unwrapped : (a b : Content) → Some a ≡ Some b → a ≡ b
        unwrapped a b e = cc
    said_at (x ∷ rest) (suc k) c cell p q = said_at rest k c cell p q

pub cell_within : (cells : List Cell) (first k : ℕ) (c : Content) → slice_get (said (drop first cells)) k ≡ Some c → first + k < length cells
cell_within cells first k c e = omega (arith, slice_get_within (said (drop first cells)) k c e, said_length cells first)

-- a step at a line
pub moves_line : (region : Contents) (key next len : ℕ) → IsOnWay region key next None → IsAt (cells_in (find region.runs key)) next (content.Line len) → length (cells_in (find region.runs key)) < 2 ^ 32
    → Moves region key next (record { step = Some (step.Line len); next = next + (2 + len / 8); bytes = Some (record { first = next + 1; len = len; copied = 0 }) })
moves_line region key next len on at few =
    let cells = cells_in (find region.runs key) in
    let way = subst (IsWay false) at.is on.way in
    let over = passes cells next len at.within way.0 way.1 in
    record {
      on_way = record { live = on.live; within = over.within; way = over.way; copies = (way.0, omega arith, omega (arith, over.within, few)) };
      step = ap (λ n. Some (step.Line n)) (sym over.count) ∙ ap (λ cs. next_step (met_in cs)) (sym at.is);
      new = ap (λ m. record { ahead = m; bytes = Some (bytes_at (said (drop (next + 1) cells))) }) over.met ∙ ap (λ cs. walked (met_in cs)) (sym at.is);
    }

-- a step at a run of bytes
pub moves_bytes : (region : Contents) (key next len : ℕ) → IsOnWay region key next None → IsAt (cells_in (find region.runs key)) next (content.Bytes len) → length (cells_in (find region.runs key)) < 2 ^ 32
    → Moves region key next (record { step = Some (step.Bytes len); next = next + (2 + len / 8); bytes = Some (record { first = next + 1; len = len; copied = 0 }) })
moves_bytes region key next len on at few =
    let cells = cells_in (find region.runs key) in
    let way = subst (IsWay false) at.is on.way in
    let over = passes cells next len at.within way.0 way.1 in
    record {
      on_way = record { live = on.live; within = over.within; way = over.way; copies = (way.0, omega arith, omega (arith, over.within, few)) };
      step = ap (λ n. Some (step.Bytes n)) (sym over.count) ∙ ap (λ cs. next_step (met_in cs)) (sym at.is);
      new = ap (λ m. record { ahead = m; bytes = Some (bytes_at (said (drop (next + 1) cells))) }) over.met ∙ ap (λ cs. walked (met_in cs)) (sym at.is);
    }

-- what a head is followed by ends within the cells
pub pass_fits : (cells : List Cell) (next len : ℕ) (head : Content) → IsAt cells next head → (head ≡ content.Line len) ⊎ (head ≡ content.Bytes len) → IsWay false (said (drop next cells)) → length cells < 2 ^ 32 → next + (2 + len / 8) < 2 ^ 32
pass_fits cells next len head at is way few = elim is [
  | inl e ↦
      let there = subst (IsWay false) (at.is ∙ ap (λ c. c ∷ said (drop (next + 1) cells)) e) way in
      omega (arith, (passes cells next len at.within there.0 there.1).within, few)
  | inr e ↦
      let there = subst (IsWay false) (at.is ∙ ap (λ c. c ∷ said (drop (next + 1) cells)) e) way in
      omega (arith, (passes cells next len at.within there.0 there.1).within, few)
]
