-- How many cells a node takes.
use Rattle.std.proofs.Common.{ℕ, suc, ◌≤◌, ◌+◌, ◌*◌, ◌/◌, ◌≡◌, List, [], ◌∷◌, ◌++◌, length, refl, sym, ◌∙◌, ap, subst, arith, length-append}
use Rattle.nif_base.specs.Node.{Node, Members, End, Here, Absent, Num, Line, Ref, Text, Bytes, Group, Row, refs, refs_in, nodes, nodes_in, text, texts}
use Rattle.nif_base.specs.declared.orders.Order.TheVariants.{Little}
use Rattle.std.proofs.lemmas.List.{length-map}
use Rattle.nif_cells.specs.Building.{Level, InBytes, InGroup, InRow, bytes_of, nodes_open, bytes_open, behind, absent_behind, node_of}
use Rattle.nif_cells.specs.Walks.{count}
use Rattle.nif_cells.specs.Encoding.{contents, contents_in, tree_contents, places_from, packed, words}
use Rattle.nif_cells.specs.Sizes.{own_cells, own_cells_in}
use Rattle.nif_cells.specs.Progress.{building_contents, head_of, held_contents}
use Rattle.nif_cells.specs.declared.contents.Content.TheVariants.{Word}
use Rattle.nif_cells.specs.declared.contents.Content.TheVariants as content
use Rattle.nif_cells.specs.PackLaws.{byte_cells-length, packed_words}
use Rattle.nif_cells.specs.PlaceLaws.{places-more, tree-length, places-none, places-views, views-words, views-members}

mutual
  node-cells : (n : Node) → length (contents n) + length (refs n) ≡ own_cells n
  node-cells (Num width little bits) = omega arith
  node-cells (Line bytes) = omega (arith, byte_cells-length bytes)
  node-cells (Ref strong wanted target) = omega arith
  node-cells (Text index) = omega arith
  node-cells (Bytes bytes) = omega (arith, byte_cells-length bytes)
  node-cells (Group members) =
      omega (arith, length-append (contents_in members) (content.End ∷ []), members-cells members)
  node-cells (Row items) = omega (arith, length-append (contents_in items) (content.End ∷ []), members-cells items)

  pub members-cells : (members : Members)
      → length (contents_in members) + length (refs_in members) ≡ own_cells_in members
  members-cells End = omega arith
  members-cells (Here n rest) = omega (
    arith,
    length-append (contents n) (contents_in rest),
    length-append (refs n)
        (refs_in rest),
    node-cells n,
    members-cells rest,
  )
  members-cells (Absent rest) = omega (arith, members-cells rest)

pub tree-cells : (n : Node) → length (tree_contents n) ≡ own_cells n
tree-cells n = tree-length n ∙ node-cells n

-- two bounds as one
both : (a b c d m n : ℕ) → a ≤ 2 * c + m / 8 → b ≤ 2 * d + n / 8 → a + b ≤ 2 * (c + d) + (m + n) / 8
both a b c d m n ha hb = omega arith

mutual
  pub cells-bound : (n : Node) → own_cells n ≤ 2 * nodes n + bytes_of n / 8
  cells-bound (Num width little bits) = omega arith
  cells-bound (Line bytes) = let long : bytes_of (Line bytes)
      ≡ length bytes + 1 = length-append bytes (0x0A ∷ []) in omega arith
  cells-bound (Ref strong wanted target) = omega arith
  cells-bound (Text index) = omega arith
  cells-bound (Bytes bytes) = omega arith
  cells-bound (Group members) = omega (arith, members-bound members)
  cells-bound (Row items) = omega (arith, members-bound items)

  pub members-bound : (members : Members)
      → own_cells_in members ≤ 2 * nodes_in members + length (texts Little members) / 8
  members-bound End = omega arith
  members-bound (Here n rest) =
      subst (λ l. own_cells n + own_cells_in rest ≤ 2 * (nodes n + nodes_in rest) + l / 8)
      (sym (length-append (text Little n) (texts Little rest)))
      (both (own_cells n) (own_cells_in rest) (nodes n) (nodes_in rest) (bytes_of n) (length (texts Little rest))
      (cells-bound n) (members-bound rest))
  members-bound (Absent rest) = omega (arith, members-bound rest)

pub tree-bound : (n : Node) → length (tree_contents n) ≤ 2 * nodes n + bytes_of n / 8
tree-bound n = subst (λ l. l ≤ 2 * nodes n + bytes_of n / 8) (sym (tree-cells n)) (cells-bound n)

pub nodes-behind : (first : Members) (n : Node) → nodes_in (behind first n) ≡ nodes_in first + nodes n
nodes-behind End n = omega arith
nodes-behind (Here m rest) n = omega (arith, nodes-behind rest n)
nodes-behind (Absent rest) n = omega (arith, nodes-behind rest n)

pub nodes-absent_behind : (first : Members) → nodes_in (absent_behind first) ≡ nodes_in first + 1
nodes-absent_behind End = omega arith
nodes-absent_behind (Here m rest) = omega (arith, nodes-absent_behind rest)
nodes-absent_behind (Absent rest) = omega (arith, nodes-absent_behind rest)

pub bytes-behind : (first : Members) (n : Node)
    → length (texts Little (behind first n)) ≡ length (texts Little first) + bytes_of n
bytes-behind End n = omega (arith, length-append (text Little n) [])
bytes-behind (Here m rest) n = omega (
  arith,
  length-append (text Little m) (texts Little (behind rest n)),
  length-append
      (text Little m) (texts Little rest),
  bytes-behind rest n,
)
bytes-behind (Absent rest) n = bytes-behind rest n

pub bytes-absent_behind : (first : Members) → length (texts Little (absent_behind first)) ≡ length (texts Little first)
bytes-absent_behind End = refl
bytes-absent_behind (Here m rest) = omega (
  arith,
  length-append (text Little m)
      (texts Little (absent_behind rest)),
  length-append (text Little m) (texts Little rest),
  bytes-absent_behind rest,
)
bytes-absent_behind (Absent rest) = bytes-absent_behind rest

pub count-behind : (first : Members) (n : Node) → count (behind first n) ≡ suc (count first)
count-behind End n = omega arith
count-behind (Here m rest) n = omega (arith, count-behind rest n)
count-behind (Absent rest) n = omega (arith, count-behind rest n)

pub count-absent_behind : (first : Members) → count (absent_behind first) ≡ suc (count first)
count-absent_behind End = omega arith
count-absent_behind (Here m rest) = omega (arith, count-absent_behind rest)
count-absent_behind (Absent rest) = omega (arith, count-absent_behind rest)

-- what one level has in cells, its head and its end among them
level-cells : (at : ℕ) (level : Level)
    → length (head_of level ∷ held_contents level) + length
    (places_from at (head_of level ∷ held_contents level)) + 1 ≤ 2 * nodes (node_of level) + bytes_of
    (node_of level) / 8
level-cells at (InBytes bytes) =
    let none : length (places_from (suc at) (words (packed bytes).words)) ≡ 0 = ap length (places-none (suc at) (words (packed bytes).words) (views-words (packed bytes).words)) in
    omega (arith, length-map (packed bytes).words (λ b. Word b), packed_words bytes)
level-cells at (InGroup members) =
    let refs_are : length (places_from (suc at) (contents_in members)) ≡ length (refs_in members) = places-views (suc at) (contents_in members) ∙ ap length (views-members members) ∙ length-map (refs_in members) _ in
    omega (arith, members-cells members, members-bound members)
level-cells at (InRow items) =
    let refs_are : length (places_from (suc at) (contents_in items)) ≡ length (refs_in items) = places-views (suc at) (contents_in items) ∙ ap length (views-members items) ∙ length-map (refs_in items) _ in
    omega (arith, members-cells items, members-bound items)

-- the cells of what is open, those of the index and of the ends that are still owed
pub open-cells : (levels : List Level)
    → length (building_contents levels) + length
    (places_from 0 (building_contents levels)) + length levels ≤ 2 * nodes_open levels + bytes_open levels / 8
open-cells [] = omega arith
open-cells (level ∷ outer) =
    let here = level-cells (0 + length (building_contents outer)) level in
    let rest = open-cells outer in
    let own = head_of level ∷ held_contents level in
    let places : length (places_from 0 (building_contents outer ++ own)) ≡ length (places_from 0 (building_contents outer)) + length (places_from (0 + length (building_contents outer)) own) =
    ap length (places-more 0 (building_contents outer) own)
    ∙ length-append (places_from 0 (building_contents outer))
    (places_from (0 + length (building_contents outer)) own) in
    sum (length (building_contents outer)) (length own) (length (building_contents outer ++ own))
    (length (places_from 0 (building_contents outer)))
    (length (places_from (0 + length (building_contents outer)) own))
    (length (places_from 0 (building_contents outer ++ own))) (length outer)
    (nodes (node_of level)) (nodes_open outer) (bytes_of (node_of level)) (bytes_open outer)
    (length-append (building_contents outer) own) places here rest
  where
    sum : (a b ab p q pq l m n x y : ℕ) → ab ≡ a + b → pq ≡ p + q → b + q + 1 ≤ 2 * m + x / 8
        → a + p + l ≤ 2 * n + y / 8 → ab + pq + suc l ≤ 2 * (m + n) + (x + y) / 8
    sum a b ab p q pq l m n x y eab epq hb ha = omega arith
