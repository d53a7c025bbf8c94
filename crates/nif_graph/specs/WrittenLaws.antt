-- Laws of what is written of a graph: what was told before doesn't count, and the graph of a file is written as the file.
use Rattle.std.proofs.Common.{◌≡◌, ◌≢◌, ◌⊎◌, inl, inr, ℕ, zero, suc, ◌+◌, ◌<◌, Bool, true, false, Option, Some, None, IfSome, List, [], ◌∷◌, ◌++◌, map, length, refl, ◌∙◌, ap, ap₂, arith}
use Rattle.std.proofs.lemmas.Bool.{eqb-true, eq-eqb}
use Rattle.std.specs.Prelude.{◌==◌, ◌&&◌, if◌then◌else◌, slice_get}
use Rattle.std.specs.Option.{option_map, option_map_or}
use Rattle.nif_base.specs.Node.{Node, Members, Num, Line, Ref, Text, Bytes, Group, Row, End, Here, Absent, Reference, refs, refs_in, retargeted, retargeted_in}
use Rattle.nif_base.specs.File.{Block, File}
use Rattle.nif_base.specs.Graph.{Origin, Named, Graph}
use Rattle.nif_graph.specs.Graph.{place}
use Rattle.nif_graph.specs.Written.{Told, untold, with_bits, with_items, numbers, strings, told_at, by_place, has_member, is_indexed, with_told, told_of, numbered, named_from, graph_of}
use Rattle.nif_graph.specs.declared.places.RolePlaces.{RolePlaces}

-- ---- what was told before doesn't count

bits_again : (a b : ℕ) (node : Node) → with_bits a (with_bits b node) ≡ with_bits a node
bits_again a b (Num width little bits) = refl
bits_again a b (Line bytes) = refl
bits_again a b (Ref strong wanted target) = refl
bits_again a b (Text index) = refl
bits_again a b (Bytes bytes) = refl
bits_again a b (Group members) = refl
bits_again a b (Row items) = refl

items_again : (a b : Members) (node : Node) → with_items a (with_items b node) ≡ with_items a node
items_again a b (Num width little bits) = refl
items_again a b (Line bytes) = refl
items_again a b (Ref strong wanted target) = refl
items_again a b (Text index) = refl
items_again a b (Bytes bytes) = refl
items_again a b (Group members) = refl
items_again a b (Row items) = refl

-- what is told at a member, by which it is
abbrev told_by : Bool → Bool → Bool → Bool → Bool → Told → Node → Node
told_by blocks sizes count types index told node =
    if blocks then with_bits told.blocks node
    else if sizes then with_items (numbers 4 told.sizes) node
    else if count then with_bits (length told.types) node
    else if types then with_items (strings told.types) node
    else if index then with_items (numbers 2 told.index) node
    else node

told_once : (a b c d e : Bool) (told old : Told) (node : Node)
    → told_by a b c d e told (told_by a b c d e old node) ≡ told_by a b c d e told node
told_once true b c d e told old node = bits_again told.blocks old.blocks node
told_once false true c d e told old node = items_again (numbers 4 told.sizes) (numbers 4 old.sizes) node
told_once false false true d e told old node = bits_again (length told.types) (length old.types) node
told_once false false false true e told old node = items_again (strings told.types) (strings old.types) node
told_once false false false false true told old node = items_again (numbers 2 told.index) (numbers 2 old.index) node
told_once false false false false false told old node = refl

at_once : (places : RolePlaces) (indexed : Bool) (told old : Told) (k : ℕ) (node : Node)
    → told_at places indexed told k (told_at places indexed old k node) ≡ told_at places indexed told k node
at_once places indexed told old k node =
    told_once (k == places.num_blocks) (option_map_or (λ place. k == place) places.sizes false)
    (indexed && option_map_or (λ place. k == place) places.num_types false)
    (indexed && option_map_or (λ place. k == place) places.types false)
    (indexed && option_map_or (λ place. k == place) places.index false) told old node

by_place_once : (f g : ℕ → Node → Node) → ((k : ℕ) (node : Node) → f k (g k node) ≡ f k node)
    → (k : ℕ) (members : Members) → by_place f k (by_place g k members) ≡ by_place f k members
by_place_once f g once k End = refl
by_place_once f g once k (Here node rest) = ap₂ (λ n r. Here n r) (once k node) (by_place_once f g once (suc k) rest)
by_place_once f g once k (Absent rest) = ap (λ r. Absent r) (by_place_once f g once (suc k) rest)

-- which members are present stays
still_there : (k n : ℕ) (f : ℕ → Node → Node) (members : Members)
    → has_member k (by_place f n members) ≡ has_member k members
still_there k n f End = refl
still_there zero n f (Here node rest) = refl
still_there zero n f (Absent rest) = refl
still_there (suc k) n f (Here node rest) = still_there k (suc n) f rest
still_there (suc k) n f (Absent rest) = still_there k (suc n) f rest

pub indexed_told : (places : RolePlaces) (told : Told) (header : Node)
    → is_indexed places (with_told places told header) ≡ is_indexed places header
indexed_told places told (Group members) = by places.index
  where
    by : (o : Option ℕ) → option_map_or (λ k. has_member k
        (by_place (told_at places (is_indexed places (Group members)) told) 0 members)) o false
        ≡ option_map_or (λ k. has_member k members) o false
    by None = refl
    by (Some k) = still_there k 0 (told_at places (is_indexed places (Group members)) told) members
indexed_told places told (Num width little bits) = refl
indexed_told places told (Line bytes) = refl
indexed_told places told (Ref strong wanted target) = refl
indexed_told places told (Text index) = refl
indexed_told places told (Bytes bytes) = refl
indexed_told places told (Row items) = refl

pub told_again : (places : RolePlaces) (told old : Told) (header : Node)
    → with_told places told (with_told places old header) ≡ with_told places told header
told_again places told old (Group members) =
    let indexed = is_indexed places (Group members) in
    ap (λ b. Group (by_place (told_at places b told) 0 (by_place (told_at places indexed old) 0 members)))
    (indexed_told places old (Group members))
    ∙ ap (λ m. Group m) (by_place_once (told_at places indexed told) (told_at places indexed old)
    (at_once places indexed told old) 0 members)
told_again places told old (Num width little bits) = refl
told_again places told old (Line bytes) = refl
told_again places told old (Ref strong wanted target) = refl
told_again places told old (Text index) = refl
told_again places told old (Bytes bytes) = refl
told_again places told old (Row items) = refl

-- ---- where the header says it already

-- each present member by its place, counted from k on
abbrev pub EachMember : (ℕ → Node → Type 0) → ℕ → Members → Type 0
EachMember P k End = Unit {0}
EachMember P k (Here node rest) = P k node × EachMember P (suc k) rest
EachMember P k (Absent rest) = EachMember P (suc k) rest

by_place_same : (f : ℕ → Node → Node) (k : ℕ) (members : Members) → EachMember (λ k node. f k node ≡ node) k members
    → by_place f k members ≡ members
by_place_same f k End each = refl
by_place_same f k (Here node rest) each = ap₂ (λ n r. Here n r) each.0 (by_place_same f (suc k) rest each.1)
by_place_same f k (Absent rest) each = ap (λ r. Absent r) (by_place_same f (suc k) rest each)

pub told_same : (places : RolePlaces) (told : Told) (members : Members)
    → EachMember (λ k node. told_at places (is_indexed places (Group members)) told k node ≡ node) 0 members
    → with_told places told (Group members) ≡ Group members
told_same places told members each =
    ap (λ m. Group m) (by_place_same (told_at places (is_indexed places (Group members)) told) 0 members each)

-- ---- targets

abbrev mutual
  -- each target in a node is below a number
  pub Below : ℕ → Node → Type 0
  Below n (Ref strong wanted target) = IfSome target (λ t. t < n)
  Below n (Group members) = BelowIn n members
  Below n (Row items) = BelowIn n items
  Below n _ = Unit {0}

  pub BelowIn : ℕ → Members → Type 0
  BelowIn n End = Unit {0}
  BelowIn n (Here node rest) = Below n node × BelowIn n rest
  BelowIn n (Absent rest) = BelowIn n rest

mutual
  -- where each target stays, so does the node
  pub same_targets : (f : ℕ → Option ℕ) (n : ℕ) → ((t : ℕ) → t < n → f t ≡ Some t) → (node : Node) → Below n node
      → retargeted f node ≡ node
  same_targets f n same (Num width little bits) b = refl
  same_targets f n same (Line bytes) b = refl
  same_targets f n same (Ref strong wanted None) b = refl
  same_targets f n same (Ref strong wanted (Some t)) b = ap (λ o. Ref strong wanted o) (same t b)
  same_targets f n same (Text index) b = refl
  same_targets f n same (Bytes bytes) b = refl
  same_targets f n same (Group members) b = ap (λ m. Group m) (same_targets_in f n same members b)
  same_targets f n same (Row items) b = ap (λ m. Row m) (same_targets_in f n same items b)

  same_targets_in : (f : ℕ → Option ℕ) (n : ℕ) → ((t : ℕ) → t < n → f t ≡ Some t) → (members : Members)
      → BelowIn n members → retargeted_in f members ≡ members
  same_targets_in f n same End b = refl
  same_targets_in f n same (Here node rest) b =
      ap₂ (λ m r. Here m r) (same_targets f n same node b.0) (same_targets_in f n same rest b.1)
  same_targets_in f n same (Absent rest) b = ap (λ r. Absent r) (same_targets_in f n same rest b)

-- a reference of one list or the other
split_at : {A : Type 0} (xs ys : List A) (k : ℕ) (x : A) → slice_get (xs ++ ys) k ≡ Some x
    → (slice_get xs k ≡ Some x) ⊎ ((j : ℕ) × (slice_get ys j ≡ Some x))
split_at [] ys k x h = inr (k, h)
split_at (y ∷ xs) ys zero x h = inl h
split_at (y ∷ xs) ys (suc k) x h = split_at xs ys k x h

mutual
  -- and so is the target of each reference of its list
  pub below_refs : (n : ℕ) (node : Node) → Below n node → (k : ℕ) (r : Reference) (t : ℕ)
      → slice_get (refs node) k ≡ Some r → r.target ≡ Some t → t < n
  below_refs n (Num width little bits) b k r t at is = absurd cc
  below_refs n (Line bytes) b k r t at is = absurd cc
  below_refs n (Ref strong wanted target) b zero r t at is = by target b (targets at)
    where
      targets : Some (record { strong = strong; wanted = wanted; target = target }) ≡ Some r → target ≡ Some t
      targets e = ap (λ o. option_map_or (λ (x : Reference). x.target) o None) e ∙ is

      by : (o : Option ℕ) → IfSome o (λ t. t < n) → o ≡ Some t → t < n
      by None b e = absurd cc
      by (Some u) b e = let same : u ≡ t = cc in omega (arith, b)
  below_refs n (Ref strong wanted target) b (suc k) r t at is = absurd cc
  below_refs n (Text index) b k r t at is = absurd cc
  below_refs n (Bytes bytes) b k r t at is = absurd cc
  below_refs n (Group members) b k r t at is = below_refs_in n members b k r t at is
  below_refs n (Row items) b k r t at is = below_refs_in n items b k r t at is

  below_refs_in : (n : ℕ) (members : Members) → BelowIn n members → (k : ℕ) (r : Reference) (t : ℕ)
      → slice_get (refs_in members) k ≡ Some r → r.target ≡ Some t → t < n
  below_refs_in n End b k r t at is = absurd cc
  below_refs_in n (Here node rest) b k r t at is = elim (split_at (refs node) (refs_in rest) k r at) [
    | inl a ↦ below_refs n node b.0 k r t a is
    | inr a ↦ below_refs_in n rest b.1 a.0 r t a.1 is
  ]
  below_refs_in n (Absent rest) b k r t at is = below_refs_in n rest b k r t at is

-- ---- the graph of a file

-- the place of each name
pub place_from : (n i : ℕ) (blocks : List Block) → i < length blocks → place (n + i) (named_from n blocks) ≡ Some i
place_from n i [] l = absurd (omega arith)
place_from n zero (block ∷ blocks) l = rw (eq-eqb (n + 0) n (omega arith)) refl
place_from n (suc i) (block ∷ blocks) l =
    let other : ((n + suc i) == n) ≡ false = differ (n + suc i) n (λ e. omega arith) in
    rw other (ap (λ m. option_map suc (place m (named_from (suc n) blocks))) (let e : n + suc i ≡ suc n + i = omega arith in e)
    ∙ ap (λ o. option_map suc o) (place_from (suc n) i blocks (omega arith)))
  where
    differ : (a b : ℕ) → a ≢ b → (a == b) ≡ false
    differ a b h = by (a == b) refl
      where
        by : (t : Bool) → (a == b) ≡ t → t ≡ false
        by true e = absurd (h (eqb-true a b e))
        by false e = refl

-- all targets in these blocks are below a number
abbrev pub BlocksBelow : ℕ → List Block → Type 0
BlocksBelow n [] = Unit {0}
BlocksBelow n (block ∷ blocks) = Below n block.node × BlocksBelow n blocks

blocks_again : (f : ℕ → Option ℕ) (n : ℕ) → ((t : ℕ) → t < n → f t ≡ Some t) → (blocks : List Block) (first : ℕ)
    → BlocksBelow n blocks
    → map (λ (b : Named). record b.block { node = retargeted f b.block.node }) (named_from first blocks) ≡ blocks
blocks_again f n same [] first b = refl
blocks_again f n same (block ∷ blocks) first b =
    ap₂ (λ node rest. record block { node = node } ∷ rest) (same_targets f n same block.node b.0)
    (blocks_again f n same blocks (suc first) b.1)

-- A file whose targets are places of its blocks, and whose header says what its graph tells, is written of its graph.
pub written_again : (places : RolePlaces) (origin : Origin) (types : List (List ℕ)) (F : File)
    → with_told places (told_of (graph_of places origin types F)) F.header ≡ F.header
    → Below (length F.blocks) F.header → BlocksBelow (length F.blocks) F.blocks → Below (length F.blocks) F.footer
    → numbered places (graph_of places origin types F) ≡ F
written_again places origin types F told header blocks footer = λ i. record {
  header = (ap (retargeted f) (told_again places (told_of G) untold F.header ∙ told)
      ∙ same_targets f (length F.blocks) stays F.header header) i;
  blocks = blocks_again f (length F.blocks) stays F.blocks 0 blocks i;
  footer = same_targets f (length F.blocks) stays F.footer footer i;
}
  where
    G : Graph
    G = graph_of places origin types F

    f : ℕ → Option ℕ
    f name = place name G.blocks

    stays : (t : ℕ) → t < length F.blocks → f t ≡ Some t
    stays t l = ap (λ m. place m G.blocks) (let e : t ≡ 0 + t = omega arith in e) ∙ place_from 0 t F.blocks l
