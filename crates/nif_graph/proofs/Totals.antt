-- How many nodes are written of a graph, and how a change of its blocks changes that.
use Rattle.std.proofs.Common.{◌≡◌, ℕ, suc, ◌+◌, Bool, true, false, List, [], ◌∷◌, map, length, refl, sym, ◌∙◌, ap, ap₂, arith}
use Rattle.std.specs.Prelude.{◌==◌, ◌&&◌, if◌then◌else◌, unwrap_or}
use Rattle.std.specs.Option.{option_map_or}
use Rattle.nif_base.specs.Node.{Node, Members, Num, Line, Ref, Text, Bytes, Group, Row, End, Here, Absent, nodes, nodes_in, size}
use Rattle.nif_base.specs.File.{block_nodes, nodes_of}
use Rattle.nif_base.specs.Graph.{Named, Graph}
use Rattle.nif_graph.specs.Graph.{place}
use Rattle.nif_graph.specs.Written.{Told, numbers, strings, with_bits, with_items, told_at, by_place, is_indexed, with_told, told_of, block_placed, numbered, rows_of, rows_at, rows_from, told_rows}
use Rattle.nif_graph.specs.declared.places.RolePlaces.{RolePlaces}
use Rattle.nif_graph.proofs.Targets.{nodes-retargeted}

-- the nodes of all blocks
abbrev pub named_nodes : List Named → ℕ
named_nodes [] = 0
named_nodes (b ∷ blocks) = nodes b.block.node + named_nodes blocks

placed_nodes : (all blocks : List Named)
    → block_nodes (map (λ (b : Named). block_placed all b.block) blocks) ≡ named_nodes blocks
placed_nodes all [] = refl
placed_nodes all (b ∷ blocks) = ap₂ (λ x y. x + y) (nodes-retargeted (λ name. place name all) b.block.node) (placed_nodes all blocks)

abbrev pub header_nodes : RolePlaces → Told → Node → ℕ
header_nodes places told header = nodes (with_told places told header)

pub written_nodes : (places : RolePlaces) (G : Graph)
    → nodes_of (numbered places G) ≡ header_nodes places (told_of G) G.header + (named_nodes G.blocks + nodes G.footer)
written_nodes places G =
    ap₂ (λ x y. x + y) (nodes-retargeted (λ name. place name G.blocks) (with_told places (told_of G) G.header))
    (ap₂ (λ x y. x + y) (placed_nodes G.blocks G.blocks) (nodes-retargeted (λ name. place name G.blocks) G.footer))

numbers_nodes : (width : ℕ) (ns : List ℕ) → nodes_in (numbers width ns) ≡ length ns
numbers_nodes width [] = refl
numbers_nodes width (n ∷ ns) = let e : nodes_in (numbers width ns) ≡ length ns = numbers_nodes width ns in omega arith

bits_nodes : (a b : ℕ) (node : Node) → nodes (with_bits a node) ≡ nodes (with_bits b node)
bits_nodes a b (Num width little bits) = refl
bits_nodes a b (Line bytes) = refl
bits_nodes a b (Ref strong wanted target) = refl
bits_nodes a b (Text index) = refl
bits_nodes a b (Bytes bytes) = refl
bits_nodes a b (Group members) = refl
bits_nodes a b (Row items) = refl

-- one item more in a row
one_more : (a b : Members) (node : Node) → nodes_in a ≡ suc (nodes_in b) → nodes (with_items a node) ≡ rows_of node + nodes (with_items b node)
one_more a b (Num width little bits) h = omega arith
one_more a b (Line bytes) h = omega arith
one_more a b (Ref strong wanted target) h = omega arith
one_more a b (Text index) h = omega arith
one_more a b (Bytes bytes) h = omega arith
one_more a b (Group members) h = omega arith
one_more a b (Row items) h = omega arith

as_many : (a b : Members) (node : Node) → nodes_in a ≡ nodes_in b → nodes (with_items a node) ≡ nodes (with_items b node)
as_many a b (Num width little bits) h = refl
as_many a b (Line bytes) h = refl
as_many a b (Ref strong wanted target) h = refl
as_many a b (Text index) h = refl
as_many a b (Bytes bytes) h = refl
as_many a b (Group members) h = refl
as_many a b (Row items) h = ap (λ n. 1 + n) h

abbrev told_by : Bool → Bool → Bool → Bool → Bool → Told → Node → Node
told_by blocks sizes count types index told node =
    if blocks then with_bits told.blocks node
    else if sizes then with_items (numbers 4 told.sizes) node
    else if count then with_bits (length told.types) node
    else if types then with_items (strings told.types) node
    else if index then with_items (numbers 2 told.index) node
    else node

abbrev rows_by : Bool → Bool → Bool → Bool → Bool → Node → ℕ
rows_by blocks sizes count types index node =
    if blocks then 0
    else if sizes then rows_of node
    else if count then 0
    else if types then 0
    else if index then rows_of node
    else 0

-- What is told of one block more.
pub record OneMore (new old : Told) : Type 0 where
  pub sizes : length new.sizes ≡ suc (length old.sizes)
  pub types : new.types ≡ old.types
  pub index : length new.index ≡ suc (length old.index)

-- What is told of as many blocks.
pub record AsMany (new old : Told) : Type 0 where
  pub sizes : length new.sizes ≡ length old.sizes
  pub types : new.types ≡ old.types
  pub index : length new.index ≡ length old.index

none_more : {a b : ℕ} → a ≡ b → a ≡ 0 + b
none_more {a} {b} e = omega arith

module _ (new old : Told) (h : OneMore new old) where
  by_more : (a b c d e : Bool) (node : Node)
      → nodes (told_by a b c d e new node) ≡ rows_by a b c d e node + nodes (told_by a b c d e old node)
  by_more true b c d e node = none_more (bits_nodes new.blocks old.blocks node)
  by_more false true c d e node =
      one_more (numbers 4 new.sizes) (numbers 4 old.sizes) node
      (numbers_nodes 4 new.sizes ∙ h.sizes ∙ ap suc (sym (numbers_nodes 4 old.sizes)))
  by_more false false true d e node = none_more (bits_nodes (length new.types) (length old.types) node)
  by_more false false false true e node = none_more (ap (λ t. nodes (with_items (strings t) node)) h.types)
  by_more false false false false true node =
      one_more (numbers 2 new.index) (numbers 2 old.index) node
      (numbers_nodes 2 new.index ∙ h.index ∙ ap suc (sym (numbers_nodes 2 old.index)))
  by_more false false false false false node = omega arith

  module _ (places : RolePlaces) (indexed : Bool) where
    from_more : (k : ℕ) (members : Members)
        → nodes_in (by_place (told_at places indexed new) k members)
        ≡ rows_from places indexed k members + nodes_in (by_place (told_at places indexed old) k members)
    from_more k End = refl
    from_more k (Here node rest) =
        add_up (nodes (told_at places indexed new k node)) (rows_at places indexed k node) (nodes (told_at places indexed old k node))
        (nodes_in (by_place (told_at places indexed new) (suc k) rest)) (rows_from places indexed (suc k) rest)
        (nodes_in (by_place (told_at places indexed old) (suc k) rest))
        (by_more (k == places.num_blocks) (option_map_or (λ place. k == place) places.sizes false)
        (indexed && option_map_or (λ place. k == place) places.num_types false)
        (indexed && option_map_or (λ place. k == place) places.types false)
        (indexed && option_map_or (λ place. k == place) places.index false) node)
        (from_more (suc k) rest)
      where
        add_up : (a r b c s d : ℕ) → a ≡ r + b → c ≡ s + d → a + c ≡ (r + s) + (b + d)
        add_up a r b c s d p q = omega arith
    from_more k (Absent rest) =
        let l : nodes_in (by_place (told_at places indexed new) (suc k) rest)
        ≡ rows_from places indexed (suc k) rest + nodes_in (by_place (told_at places indexed old) (suc k) rest) = from_more (suc k) rest in
        omega arith

  pub header_more : (places : RolePlaces) (header : Node)
      → header_nodes places new header ≡ told_rows places header + header_nodes places old header
  header_more places (Group members) =
      let l : nodes_in (by_place (told_at places (is_indexed places (Group members)) new) 0 members)
      ≡ rows_from places (is_indexed places (Group members)) 0 members
      + nodes_in (by_place (told_at places (is_indexed places (Group members)) old) 0 members) =
      from_more places (is_indexed places (Group members)) 0 members in
      omega arith
  header_more places (Num width little bits) = omega arith
  header_more places (Line bytes) = omega arith
  header_more places (Ref strong wanted target) = omega arith
  header_more places (Text index) = omega arith
  header_more places (Bytes bytes) = omega arith
  header_more places (Row items) = omega arith

module _ (new old : Told) (h : AsMany new old) where
  by_same : (a b c d e : Bool) (node : Node) → nodes (told_by a b c d e new node) ≡ nodes (told_by a b c d e old node)
  by_same true b c d e node = bits_nodes new.blocks old.blocks node
  by_same false true c d e node =
      as_many (numbers 4 new.sizes) (numbers 4 old.sizes) node
      (numbers_nodes 4 new.sizes ∙ h.sizes ∙ sym (numbers_nodes 4 old.sizes))
  by_same false false true d e node = bits_nodes (length new.types) (length old.types) node
  by_same false false false true e node = ap (λ t. nodes (with_items (strings t) node)) h.types
  by_same false false false false true node =
      as_many (numbers 2 new.index) (numbers 2 old.index) node
      (numbers_nodes 2 new.index ∙ h.index ∙ sym (numbers_nodes 2 old.index))
  by_same false false false false false node = refl

  module _ (places : RolePlaces) (indexed : Bool) where
    from_same : (k : ℕ) (members : Members)
        → nodes_in (by_place (told_at places indexed new) k members) ≡ nodes_in (by_place (told_at places indexed old) k members)
    from_same k End = refl
    from_same k (Here node rest) =
        ap₂ (λ x y. x + y)
        (by_same (k == places.num_blocks) (option_map_or (λ place. k == place) places.sizes false)
        (indexed && option_map_or (λ place. k == place) places.num_types false)
        (indexed && option_map_or (λ place. k == place) places.types false)
        (indexed && option_map_or (λ place. k == place) places.index false) node)
        (from_same (suc k) rest)
    from_same k (Absent rest) = ap (λ n. 1 + n) (from_same (suc k) rest)

  pub header_same : (places : RolePlaces) (header : Node) → header_nodes places new header ≡ header_nodes places old header
  header_same places (Group members) = ap (λ n. 1 + n) (from_same places (is_indexed places (Group members)) 0 members)
  header_same places (Num width little bits) = refl
  header_same places (Line bytes) = refl
  header_same places (Ref strong wanted target) = refl
  header_same places (Text index) = refl
  header_same places (Bytes bytes) = refl
  header_same places (Row items) = refl

length_of : {A B : Type 0} (f : A → B) (xs : List A) → length (map f xs) ≡ length xs
length_of f [] = refl
length_of f (x ∷ xs) = ap suc (length_of f xs)

-- Two graphs of one header and of the same types, with as many blocks.
pub record SameSize (new old : Graph) : Type 0 where
  pub header : new.header ≡ old.header
  pub types : new.types ≡ old.types
  pub blocks : length new.blocks ≡ length old.blocks

pub same_total : (places : RolePlaces) (new old : Graph) → SameSize new old → named_nodes new.blocks ≡ named_nodes old.blocks
    → nodes new.footer ≡ nodes old.footer → nodes_of (numbered places new) ≡ nodes_of (numbered places old)
same_total places new old h blocks footer =
    written_nodes places new ∙ ap₂ (λ x y. x + y) (same_header places new old h) (ap₂ (λ x y. x + y) blocks footer)
    ∙ sym (written_nodes places old)
  where
    same_header : (places : RolePlaces) (new old : Graph) → SameSize new old
        → header_nodes places (told_of new) new.header ≡ header_nodes places (told_of old) old.header
    same_header places new old h =
        header_same (told_of new) (told_of old) (record {
          sizes = length_of (λ (b : Named). size b.block.node) new.blocks ∙ h.blocks ∙ sym (length_of (λ (b : Named). size b.block.node) old.blocks);
          types = h.types;
          index = length_of (λ (b : Named). unwrap_or b.block.index 0) new.blocks ∙ h.blocks ∙ sym (length_of (λ (b : Named). unwrap_or b.block.index 0) old.blocks);
        }) places new.header
        ∙ ap (λ n. header_nodes places (told_of old) n) h.header

-- with one block more
pub record OneLarger (new old : Graph) : Type 0 where
  pub header : new.header ≡ old.header
  pub types : new.types ≡ old.types
  pub blocks : length new.blocks ≡ suc (length old.blocks)

pub larger_header : (places : RolePlaces) (new old : Graph) → OneLarger new old
    → header_nodes places (told_of new) new.header ≡ told_rows places old.header + header_nodes places (told_of old) old.header
larger_header places new old h =
    header_more (told_of new) (told_of old) (record {
      sizes = length_of (λ (b : Named). size b.block.node) new.blocks ∙ h.blocks ∙ ap suc (sym (length_of (λ (b : Named). size b.block.node) old.blocks));
      types = h.types;
      index = length_of (λ (b : Named). unwrap_or b.block.index 0) new.blocks ∙ h.blocks ∙ ap suc (sym (length_of (λ (b : Named). unwrap_or b.block.index 0) old.blocks));
    }) places new.header
    ∙ ap (λ n. told_rows places n + header_nodes places (told_of old) n) h.header

pub larger_total : (places : RolePlaces) (new old : Graph) (n : ℕ) → OneLarger new old
    → named_nodes new.blocks ≡ n + named_nodes old.blocks → nodes new.footer ≡ nodes old.footer
    → nodes_of (numbered places new) ≡ (n + told_rows places old.header) + nodes_of (numbered places old)
larger_total places new old n h blocks footer =
    by (nodes_of (numbered places new)) (nodes_of (numbered places old)) (header_nodes places (told_of new) new.header)
    (header_nodes places (told_of old) old.header) (told_rows places old.header) (named_nodes new.blocks) (named_nodes old.blocks)
    (nodes new.footer) (nodes old.footer)
    (written_nodes places new) (written_nodes places old) (larger_header places new old h) blocks footer
  where
    by : (t u a b r c d e f : ℕ) → t ≡ a + (c + e) → u ≡ b + (d + f) → a ≡ r + b → c ≡ n + d → e ≡ f → t ≡ (n + r) + u
    by t u a b r c d e f p q x y z = omega arith

-- one node in place of another
pub changed_total : (places : RolePlaces) (new old : Graph) (a b : ℕ) → SameSize new old
    → a + named_nodes new.blocks ≡ b + named_nodes old.blocks → nodes new.footer ≡ nodes old.footer
    → a + nodes_of (numbered places new) ≡ b + nodes_of (numbered places old)
changed_total places new old a b h blocks footer =
    by (nodes_of (numbered places new)) (nodes_of (numbered places old)) (header_nodes places (told_of new) new.header)
    (header_nodes places (told_of old) old.header) (named_nodes new.blocks) (named_nodes old.blocks)
    (nodes new.footer) (nodes old.footer)
    (written_nodes places new) (written_nodes places old) header blocks footer
  where
    by : (t u c d e f i j : ℕ) → t ≡ c + (e + i) → u ≡ d + (f + j) → c ≡ d → a + e ≡ b + f → i ≡ j → a + t ≡ b + u
    by t u c d e f i j p q x y z = omega arith

    header : header_nodes places (told_of new) new.header ≡ header_nodes places (told_of old) old.header
    header =
        header_same (told_of new) (told_of old) (record {
          sizes = length_of (λ (b : Named). size b.block.node) new.blocks ∙ h.blocks ∙ sym (length_of (λ (b : Named). size b.block.node) old.blocks);
          types = h.types;
          index = length_of (λ (b : Named). unwrap_or b.block.index 0) new.blocks ∙ h.blocks ∙ sym (length_of (λ (b : Named). unwrap_or b.block.index 0) old.blocks);
        }) places new.header
        ∙ ap (λ n. header_nodes places (told_of old) n) h.header
