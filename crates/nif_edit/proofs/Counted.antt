-- The nodes and bytes of what is written of a graph: they are those of its header, its blocks and its footer, and the header
-- has no more of them where there are no more blocks.
use Rattle.std.proofs.Common.{◌≡◌, inl, inr, ℕ, zero, suc, ◌+◌, ◌≤◌, Bool, true, false, Option, Some, None, List, [], ◌∷◌, map, length, refl, sym, ◌∙◌, ap, ap₂, subst, arith}
use Rattle.std.proofs.lemmas.Bool.{eqb-true}
use Rattle.std.proofs.lemmas.List.{length-map}
use Rattle.std.specs.Prelude.{◌==◌, ◌&&◌, ◌-◌, if◌then◌else◌, nat_lt, insert, unwrap_or}
use Rattle.std.specs.Option.{option_map_or}
use Rattle.nif_base.specs.Node.{Node, Members, Num, Line, Ref, Text, Bytes, Group, Row, End, Here, Absent, refs, retargeted, retargeted_in, nodes, nodes_in, size, size_in}
use Rattle.nif_base.specs.File.{Block, block_nodes, nodes_of}
use Rattle.nif_base.specs.Graph.{Named, Graph}
use Rattle.nif_cells.specs.Building.{with_target, with_target_in}
use Rattle.nif_schema.specs.Schema.{Schema}
use Rattle.nif_graph.specs.Graph.{find, place, Different}
use Rattle.nif_graph.specs.Changes.{without}
use Rattle.nif_graph.specs.Written.{Told, with_bits, with_items, numbers, strings, told_at, by_place, is_indexed, with_told, told_of, block_placed, numbered}
use Rattle.nif_graph.specs.declared.places.RolePlaces.{RolePlaces}
use Rattle.nif_edit.specs.Size.{framing, blocks_size, bytes_of}
use Rattle.nif_edit.proofs.Finding.{test, same, find-without, different-without}

-- ---- what targets leave

mutual
  pub nodes_retargeted : (f : ℕ → Option ℕ) (at : Node) → nodes (retargeted f at) ≡ nodes at
  nodes_retargeted f (Num width little bits) = refl
  nodes_retargeted f (Line bytes) = refl
  nodes_retargeted f (Ref strong wanted target) = refl
  nodes_retargeted f (Text index) = refl
  nodes_retargeted f (Bytes bytes) = refl
  nodes_retargeted f (Group members) = ap (λ n. 1 + n) (nodes_retargeted_in f members)
  nodes_retargeted f (Row items) = ap (λ n. 1 + n) (nodes_retargeted_in f items)

  nodes_retargeted_in : (f : ℕ → Option ℕ) (members : Members) → nodes_in (retargeted_in f members) ≡ nodes_in members
  nodes_retargeted_in f End = refl
  nodes_retargeted_in f (Here at rest) = ap₂ (λ x y. x + y) (nodes_retargeted f at) (nodes_retargeted_in f rest)
  nodes_retargeted_in f (Absent rest) = ap (λ n. 1 + n) (nodes_retargeted_in f rest)

mutual
  pub size_retargeted : (f : ℕ → Option ℕ) (at : Node) → size (retargeted f at) ≡ size at
  size_retargeted f (Num width little bits) = refl
  size_retargeted f (Line bytes) = refl
  size_retargeted f (Ref strong wanted target) = refl
  size_retargeted f (Text index) = refl
  size_retargeted f (Bytes bytes) = refl
  size_retargeted f (Group members) = size_retargeted_in f members
  size_retargeted f (Row items) = size_retargeted_in f items

  size_retargeted_in : (f : ℕ → Option ℕ) (members : Members) → size_in (retargeted_in f members) ≡ size_in members
  size_retargeted_in f End = refl
  size_retargeted_in f (Here at rest) = ap₂ (λ x y. x + y) (size_retargeted f at) (size_retargeted_in f rest)
  size_retargeted_in f (Absent rest) = size_retargeted_in f rest

mutual
  pub nodes_target : (k : ℕ) (to : Option ℕ) (at : Node) → nodes (with_target k to at) ≡ nodes at
  nodes_target k to (Num width little bits) = refl
  nodes_target k to (Line bytes) = refl
  nodes_target k to (Ref strong wanted target) = refl
  nodes_target k to (Text index) = refl
  nodes_target k to (Bytes bytes) = refl
  nodes_target k to (Group members) = ap (λ n. 1 + n) (nodes_target_in k to members)
  nodes_target k to (Row items) = ap (λ n. 1 + n) (nodes_target_in k to items)

  nodes_target_in : (k : ℕ) (to : Option ℕ) (members : Members) → nodes_in (with_target_in k to members) ≡ nodes_in members
  nodes_target_in k to End = refl
  nodes_target_in k to (Here at rest) = elim (test (nat_lt k (length (refs at)))) [
    | inl q ↦ rw q (ap (λ n. n + nodes_in rest) (nodes_target k to at))
    | inr q ↦ rw q (ap (λ n. nodes at + n) (nodes_target_in (k - length (refs at)) to rest))
  ]
  nodes_target_in k to (Absent rest) = ap (λ n. 1 + n) (nodes_target_in k to rest)

mutual
  pub size_target : (k : ℕ) (to : Option ℕ) (at : Node) → size (with_target k to at) ≡ size at
  size_target k to (Num width little bits) = refl
  size_target k to (Line bytes) = refl
  size_target k to (Ref strong wanted target) = refl
  size_target k to (Text index) = refl
  size_target k to (Bytes bytes) = refl
  size_target k to (Group members) = size_target_in k to members
  size_target k to (Row items) = size_target_in k to items

  size_target_in : (k : ℕ) (to : Option ℕ) (members : Members) → size_in (with_target_in k to members) ≡ size_in members
  size_target_in k to End = refl
  size_target_in k to (Here at rest) = elim (test (nat_lt k (length (refs at)))) [
    | inl q ↦ rw q (ap (λ n. n + size_in rest) (size_target k to at))
    | inr q ↦ rw q (ap (λ n. size at + n) (size_target_in (k - length (refs at)) to rest))
  ]
  size_target_in k to (Absent rest) = size_target_in k to rest

-- ---- weights: the sum of a number of each block

abbrev pub weight : (Block → ℕ) → List Named → ℕ
weight f [] = 0
weight f (b ∷ blocks) = f b.block + weight f blocks

pub weight_insert : (f : Block → ℕ) (at : ℕ) (b : Named) (blocks : List Named)
    → weight f (insert blocks at b) ≡ f b.block + weight f blocks
weight_insert f zero b blocks = refl
weight_insert f (suc at) b [] = refl
weight_insert f (suc at) b (c ∷ blocks) = let e : weight f (insert blocks at b) ≡ f b.block + weight f blocks = weight_insert f at b blocks in omega (arith, e)

pub weight_without : (f : Block → ℕ) (name : ℕ) (blocks : List Named) (block : Block) → find name blocks ≡ Some block
    → weight f blocks ≡ f block + weight f (without name blocks)
weight_without f name [] block h = absurd cc
weight_without f name (b ∷ blocks) block h = elim (test (name == b.name)) [
  | inl q ↦
      let e : Some b.block ≡ Some block = rw q at h in
      let e' : b.block ≡ block = cc in
      rw q (ap (λ x. f x + weight f blocks) e')
  | inr q ↦
      let e : weight f blocks ≡ f block + weight f (without name blocks) = weight_without f name blocks block (rw q at h) in
      rw q (let g : f b.block + weight f blocks ≡ f block + (f b.block + weight f (without name blocks)) = omega (arith, e) in g)
]

pub weight_less : (f : Block → ℕ) (name : ℕ) (blocks : List Named) → weight f (without name blocks) ≤ weight f blocks
weight_less f name [] = omega arith
weight_less f name (b ∷ blocks) = elim (test (name == b.name)) [
  | inl q ↦ rw q (omega arith)
  | inr q ↦ rw q (let l : weight f (without name blocks) ≤ weight f blocks = weight_less f name blocks in omega arith)
]

-- Lists in which the same blocks are found weigh the same.
pub weight_same : (f : Block → ℕ) (A B : List Named) → Different A → Different B
    → ((n : ℕ) → find n A ≡ find n B) → weight f A ≡ weight f B
weight_same f [] [] a b h = refl
weight_same f [] (c ∷ B) a b h = absurd (let e : None ≡ Some c.block = h c.name ∙ rw (same c.name) refl in cc)
weight_same f (c ∷ A) B a b h =
    let there : find c.name B ≡ Some c.block = sym (h c.name) ∙ rw (same c.name) refl in
    let rest : weight f A ≡ weight f (without c.name B) =
    weight_same f A (without c.name B) a.1 (different-without c.name B b) (λ n. others n) in
    ap (λ n. f c.block + n) rest ∙ sym (weight_without f c.name B c.block there)
  where
    others : (n : ℕ) → find n A ≡ find n (without c.name B)
    others n = elim (test (n == c.name)) [
      | inl q ↦
          let e : n ≡ c.name = eqb-true n c.name q in
          ap (λ x. find x A) e ∙ a.0 ∙ sym (find-without n c.name B b ∙ rw q refl)
      | inr q ↦ (let e : find n A ≡ find n B = rw q at (h n) in e) ∙ sym (find-without n c.name B b ∙ rw q refl)
    ]

-- the number of blocks is a weight
pub weight_length : (blocks : List Named) → weight (λ b. 1) blocks ≡ length blocks
weight_length [] = refl
weight_length (b ∷ blocks) = let e : weight (λ b. 1) blocks ≡ length blocks = weight_length blocks in omega (arith, e)

-- ---- the header

-- no more blocks are told, and the same types
pub record Fewer (a b : Told) : Type 0 where
  pub sizes : length a.sizes ≤ length b.sizes
  pub types : a.types ≡ b.types
  pub index : length a.index ≤ length b.index

-- what is told at a member, by which it is
abbrev told_by : Bool → Bool → Bool → Bool → Bool → Told → Node → Node
told_by blocks sizes count types index told node =
    if blocks then with_bits told.blocks node
    else if sizes then with_items (numbers 4 told.sizes) node
    else if count then with_bits (length told.types) node
    else if types then with_items (strings told.types) node
    else if index then with_items (numbers 2 told.index) node
    else node

-- ---- its nodes

numbers_nodes : (width : ℕ) (a b : List ℕ) → length a ≤ length b → nodes_in (numbers width a) ≤ nodes_in (numbers width b)
numbers_nodes width [] b l = omega arith
numbers_nodes width (x ∷ a) [] l = absurd (omega arith)
numbers_nodes width (x ∷ a) (y ∷ b) l =
    let h : nodes_in (numbers width a) ≤ nodes_in (numbers width b) = numbers_nodes width a b (omega arith) in omega arith

bits_nodes : (x y : ℕ) (at : Node) → nodes (with_bits x at) ≤ nodes (with_bits y at)
bits_nodes x y (Num width little bits) = omega arith
bits_nodes x y (Line bytes) = omega arith
bits_nodes x y (Ref strong wanted target) = omega arith
bits_nodes x y (Text index) = omega arith
bits_nodes x y (Bytes bytes) = omega arith
bits_nodes x y (Group members) = omega arith
bits_nodes x y (Row items) = omega arith

items_nodes : (a b : Members) → nodes_in a ≤ nodes_in b → (at : Node) → nodes (with_items a at) ≤ nodes (with_items b at)
items_nodes a b l (Num width little bits) = omega arith
items_nodes a b l (Line bytes) = omega arith
items_nodes a b l (Ref strong wanted target) = omega arith
items_nodes a b l (Text index) = omega arith
items_nodes a b l (Bytes bytes) = omega arith
items_nodes a b l (Group members) = omega arith
items_nodes a b l (Row items) = omega arith

told_nodes : (c d e g h : Bool) (a b : Told) → Fewer a b → (at : Node)
    → nodes (told_by c d e g h a at) ≤ nodes (told_by c d e g h b at)
told_nodes true d e g h a b l at = bits_nodes a.blocks b.blocks at
told_nodes false true e g h a b l at = items_nodes (numbers 4 a.sizes) (numbers 4 b.sizes) (numbers_nodes 4 a.sizes b.sizes l.sizes) at
told_nodes false false true g h a b l at = bits_nodes (length a.types) (length b.types) at
told_nodes false false false true h a b l at =
    let e : nodes_in (strings a.types) ≡ nodes_in (strings b.types) = ap (λ t. nodes_in (strings t)) l.types in
    items_nodes (strings a.types) (strings b.types) (omega (arith, e)) at
told_nodes false false false false true a b l at = items_nodes (numbers 2 a.index) (numbers 2 b.index) (numbers_nodes 2 a.index b.index l.index) at
told_nodes false false false false false a b l at = omega arith

place_nodes : (f g : ℕ → Node → Node) → ((k : ℕ) (at : Node) → nodes (f k at) ≤ nodes (g k at)) → (k : ℕ) (members : Members)
    → nodes_in (by_place f k members) ≤ nodes_in (by_place g k members)
place_nodes f g l k End = omega arith
place_nodes f g l k (Here at rest) =
    let here : nodes (f k at) ≤ nodes (g k at) = l k at in
    let more : nodes_in (by_place f (suc k) rest) ≤ nodes_in (by_place g (suc k) rest) = place_nodes f g l (suc k) rest in
    omega arith
place_nodes f g l k (Absent rest) =
    let more : nodes_in (by_place f (suc k) rest) ≤ nodes_in (by_place g (suc k) rest) = place_nodes f g l (suc k) rest in
    omega arith

pub header_nodes : (places : RolePlaces) (a b : Told) → Fewer a b → (header : Node)
    → nodes (with_told places a header) ≤ nodes (with_told places b header)
header_nodes places a b l (Group members) =
    let indexed = is_indexed places (Group members) in
    let h : nodes_in (by_place (told_at places indexed a) 0 members) ≤ nodes_in (by_place (told_at places indexed b) 0 members) =
    place_nodes (told_at places indexed a) (told_at places indexed b)
    (λ k at. told_nodes (k == places.num_blocks) (option_map_or (λ place. k == place) places.sizes false)
    (indexed && option_map_or (λ place. k == place) places.num_types false)
    (indexed && option_map_or (λ place. k == place) places.types false)
    (indexed && option_map_or (λ place. k == place) places.index false) a b l at) 0 members in
    omega arith
header_nodes places a b l (Num width little bits) = omega arith
header_nodes places a b l (Line bytes) = omega arith
header_nodes places a b l (Ref strong wanted target) = omega arith
header_nodes places a b l (Text index) = omega arith
header_nodes places a b l (Bytes bytes) = omega arith
header_nodes places a b l (Row items) = omega arith

-- ---- its bytes

numbers_size : (width : ℕ) (a b : List ℕ) → length a ≤ length b → size_in (numbers width a) ≤ size_in (numbers width b)
numbers_size width [] b l = omega arith
numbers_size width (x ∷ a) [] l = absurd (omega arith)
numbers_size width (x ∷ a) (y ∷ b) l =
    let h : size_in (numbers width a) ≤ size_in (numbers width b) = numbers_size width a b (omega arith) in omega arith

bits_size : (x y : ℕ) (at : Node) → size (with_bits x at) ≤ size (with_bits y at)
bits_size x y (Num width little bits) = omega arith
bits_size x y (Line bytes) = omega arith
bits_size x y (Ref strong wanted target) = omega arith
bits_size x y (Text index) = omega arith
bits_size x y (Bytes bytes) = omega arith
bits_size x y (Group members) = omega arith
bits_size x y (Row items) = omega arith

items_size : (a b : Members) → size_in a ≤ size_in b → (at : Node) → size (with_items a at) ≤ size (with_items b at)
items_size a b l (Num width little bits) = omega arith
items_size a b l (Line bytes) = omega arith
items_size a b l (Ref strong wanted target) = omega arith
items_size a b l (Text index) = omega arith
items_size a b l (Bytes bytes) = omega arith
items_size a b l (Group members) = omega arith
items_size a b l (Row items) = omega arith

told_size : (c d e g h : Bool) (a b : Told) → Fewer a b → (at : Node)
    → size (told_by c d e g h a at) ≤ size (told_by c d e g h b at)
told_size true d e g h a b l at = bits_size a.blocks b.blocks at
told_size false true e g h a b l at = items_size (numbers 4 a.sizes) (numbers 4 b.sizes) (numbers_size 4 a.sizes b.sizes l.sizes) at
told_size false false true g h a b l at = bits_size (length a.types) (length b.types) at
told_size false false false true h a b l at =
    let e : size_in (strings a.types) ≡ size_in (strings b.types) = ap (λ t. size_in (strings t)) l.types in
    items_size (strings a.types) (strings b.types) (omega (arith, e)) at
told_size false false false false true a b l at = items_size (numbers 2 a.index) (numbers 2 b.index) (numbers_size 2 a.index b.index l.index) at
told_size false false false false false a b l at = omega arith

place_size : (f g : ℕ → Node → Node) → ((k : ℕ) (at : Node) → size (f k at) ≤ size (g k at)) → (k : ℕ) (members : Members)
    → size_in (by_place f k members) ≤ size_in (by_place g k members)
place_size f g l k End = omega arith
place_size f g l k (Here at rest) =
    let here : size (f k at) ≤ size (g k at) = l k at in
    let more : size_in (by_place f (suc k) rest) ≤ size_in (by_place g (suc k) rest) = place_size f g l (suc k) rest in
    omega arith
place_size f g l k (Absent rest) =
    let more : size_in (by_place f (suc k) rest) ≤ size_in (by_place g (suc k) rest) = place_size f g l (suc k) rest in
    omega arith

pub header_size : (places : RolePlaces) (a b : Told) → Fewer a b → (header : Node)
    → size (with_told places a header) ≤ size (with_told places b header)
header_size places a b l (Group members) =
    let indexed = is_indexed places (Group members) in
    let h : size_in (by_place (told_at places indexed a) 0 members) ≤ size_in (by_place (told_at places indexed b) 0 members) =
    place_size (told_at places indexed a) (told_at places indexed b)
    (λ k at. told_size (k == places.num_blocks) (option_map_or (λ place. k == place) places.sizes false)
    (indexed && option_map_or (λ place. k == place) places.num_types false)
    (indexed && option_map_or (λ place. k == place) places.types false)
    (indexed && option_map_or (λ place. k == place) places.index false) a b l at) 0 members in
    omega arith
header_size places a b l (Num width little bits) = omega arith
header_size places a b l (Line bytes) = omega arith
header_size places a b l (Ref strong wanted target) = omega arith
header_size places a b l (Text index) = omega arith
header_size places a b l (Bytes bytes) = omega arith
header_size places a b l (Row items) = omega arith

-- ---- the file

pub told_fewer : (G G' : Graph) → length G'.blocks ≤ length G.blocks → G'.types ≡ G.types → Fewer (told_of G') (told_of G)
told_fewer G G' l t = record {
  sizes = let e = length-map G'.blocks (λ (b : Named). size b.block.node) in
      let e' = length-map G.blocks (λ (b : Named). size b.block.node) in omega (arith, e, e');
  types = t;
  index = let e = length-map G'.blocks (λ (b : Named). unwrap_or b.block.index 0) in
      let e' = length-map G.blocks (λ (b : Named). unwrap_or b.block.index 0) in omega (arith, e, e');
}

abbrev pub node_weight : Block → ℕ
node_weight block = nodes block.node

abbrev pub byte_weight : Schema → ℕ → Block → ℕ
byte_weight S version block = framing S version block + size block.node

nodes_blocks : (all blocks : List Named) → block_nodes (map (λ (b : Named). block_placed all b.block) blocks) ≡ weight node_weight blocks
nodes_blocks all [] = refl
nodes_blocks all (b ∷ blocks) =
    ap₂ (λ x y. x + y) (nodes_retargeted (λ name. place name all) b.block.node) (nodes_blocks all blocks)

size_blocks : (S : Schema) (version : ℕ) (all blocks : List Named)
    → blocks_size S version (map (λ (b : Named). block_placed all b.block) blocks) ≡ weight (byte_weight S version) blocks
size_blocks S version all [] = refl
size_blocks S version all (b ∷ blocks) =
    ap₂ (λ x y. framing S version b.block + x + y) (size_retargeted (λ name. place name all) b.block.node)
    (size_blocks S version all blocks)

-- the nodes of what is written of a graph
pub nodes_are : (places : RolePlaces) (G : Graph)
    → nodes_of (numbered places G)
    ≡ nodes (with_told places (told_of G) G.header) + (weight node_weight G.blocks + nodes G.footer)
nodes_are places G = λ i. nodes_retargeted (λ name. place name G.blocks) (with_told places (told_of G) G.header) i
    + (nodes_blocks G.blocks G.blocks i + nodes_retargeted (λ name. place name G.blocks) G.footer i)

-- and its bytes
pub bytes_are : (S : Schema) (places : RolePlaces) (G : Graph)
    → bytes_of S places G
    ≡ size (with_told places (told_of G) G.header) + weight (byte_weight S G.origin.version) G.blocks + size G.footer
bytes_are S places G = λ i. size_retargeted (λ name. place name G.blocks) (with_told places (told_of G) G.header) i
    + size_blocks S G.origin.version G.blocks G.blocks i + size_retargeted (λ name. place name G.blocks) G.footer i

-- Where there are no more blocks, and they and the footer have no more nodes and bytes, nor has the file.
pub record Smaller (S : Schema) (G G' : Graph) : Type 0 where
  pub header : G'.header ≡ G.header
  pub version : G'.origin.version ≡ G.origin.version
  pub types : G'.types ≡ G.types
  pub count : length G'.blocks ≤ length G.blocks
  pub nodes_in_blocks : weight node_weight G'.blocks ≤ weight node_weight G.blocks
  pub bytes_in_blocks : weight (byte_weight S G.origin.version) G'.blocks ≤ weight (byte_weight S G.origin.version) G.blocks
  pub nodes_in_footer : nodes G'.footer ≤ nodes G.footer
  pub bytes_in_footer : size G'.footer ≤ size G.footer

pub fewer_nodes : (S : Schema) (places : RolePlaces) (G G' : Graph) → Smaller S G G'
    → nodes_of (numbered places G') ≤ nodes_of (numbered places G)
fewer_nodes S places G G' h =
    let head : nodes (with_told places (told_of G') G'.header) ≤ nodes (with_told places (told_of G) G.header) =
    subst (λ x. nodes (with_told places (told_of G') x) ≤ nodes (with_told places (told_of G) G.header)) (sym h.header)
    (header_nodes places (told_of G') (told_of G) (told_fewer G G' h.count h.types) G.header) in
    let b = h.nodes_in_blocks in
    let f = h.nodes_in_footer in
    omega (arith, nodes_are places G, nodes_are places G', head, b, f)

pub fewer_bytes : (S : Schema) (places : RolePlaces) (G G' : Graph) → Smaller S G G'
    → bytes_of S places G' ≤ bytes_of S places G
fewer_bytes S places G G' h =
    let head : size (with_told places (told_of G') G'.header) ≤ size (with_told places (told_of G) G.header) =
    subst (λ x. size (with_told places (told_of G') x) ≤ size (with_told places (told_of G) G.header)) (sym h.header)
    (header_size places (told_of G') (told_of G) (told_fewer G G' h.count h.types) G.header) in
    let b : weight (byte_weight S G'.origin.version) G'.blocks ≤ weight (byte_weight S G.origin.version) G.blocks =
    subst (λ v. weight (byte_weight S v) G'.blocks ≤ weight (byte_weight S G.origin.version) G.blocks) (sym h.version)
    h.bytes_in_blocks in
    let f = h.bytes_in_footer in
    omega (arith, bytes_are S places G, bytes_are S places G', head, b, f)
