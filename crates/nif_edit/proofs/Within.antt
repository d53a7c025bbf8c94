-- After an accepted edit, what is written is within the limits.
use Rattle.std.proofs.Common.{◌≡◌, inl, inr, ℕ, zero, suc, ◌+◌, ◌<◌, ◌≤◌, true, false, Option, Some, None, List, [], ◌∷◌, ◌++◌, length, refl, sym, ◌∙◌, ap, ap₂, subst, arith, length-append}
use Rattle.std.proofs.lemmas.Bool.{eqb-true, ltb-true, ltb-false}
use Rattle.std.specs.Prelude.{◌==◌, if◌then◌else◌, nat_lt, insert}
use Rattle.std.specs.Option.{option_map_or}
use Rattle.nif_base.specs.Limits.{most_blocks, most_nodes, most_file_bytes, most_depth}
use Rattle.nif_base.specs.Node as node
use Rattle.nif_base.specs.Node.{Node, Members, retargeted, End, Here, Absent, nodes, nodes_in, size, size_in}
use Rattle.nif_base.specs.File.{Block, nodes_of}
use Rattle.nif_base.specs.Graph.{Named, Graph}
use Rattle.nif_cells.specs.Building.{with_target}
use Rattle.nif_schema.specs.Schema.{Schema, find_block}
use Rattle.nif_layout.specs.Zero.{zero_of}
use Rattle.nif_graph.specs.Graph.{IsGraph, find}
use Rattle.nif_graph.specs.Reach.{Reaches}
use Rattle.nif_graph.specs.Changes.{emptied, all_emptied, with_node, without, changed, added}
use Rattle.nif_graph.specs.Written.{numbered, told_of, with_told}
use Rattle.nif_graph.specs.declared.places.RolePlaces.{RolePlaces}
use Rattle.nif_edit.specs.declared.edits.Edit.{Edit}
use Rattle.nif_edit.specs.declared.edits.Edit.TheVariants.{Remove, Copy, Insert, Replace, Move, Reorder, Point}
use Rattle.nif_edit.specs.Edit.{EditFault, WouldCycle, TooManyBlocks, TooManyNodes, TooLong}
use Rattle.nif_edit.specs.Inserted.{context_of, inserted}
use Rattle.nif_edit.specs.After.{after}
use Rattle.nif_edit.specs.Size.{bytes_of, framing}
use Rattle.nif_edit.specs.Refused.{First, Where, TooLarge, Step, steps, steps_in, Overruns, Mistypes, Accepted}
use Rattle.nif_edit.specs.Laws.{seen, new_block}
use Rattle.nif_edit.specs.Fits.{IsWithin, KeepsFits, AllKeepFits}
use Rattle.nif_edit.proofs.Finding.{test}
use Rattle.nif_edit.proofs.Walks.{either}
use Rattle.nif_edit.proofs.Seen.{find-after, not_first, not_second, lives, declared}
use Rattle.nif_edit.proofs.Origins.{keeps_graph}
use Rattle.nif_edit.proofs.Kept.{different-after}
use Rattle.nif_edit.proofs.Kin.{by_block, by_number, header_stays, origin_stays, types_are}
use Rattle.nif_edit.proofs.Shallow.{Shallow, front, back, all_shallow}
use Rattle.nif_edit.proofs.Values.{keeps_values, zero_steps}
use Rattle.nif_edit.proofs.Counted.{nodes_retargeted, size_retargeted, nodes_target, size_target, weight, weight_insert, weight_less, weight_same, weight_length, node_weight, byte_weight, nodes_are, bytes_are, Smaller, fewer_nodes, fewer_bytes, header_nodes, header_size, told_fewer}

-- ---- edits after which there is no more

-- a number of a block that its targets don't change
abbrev Blind : (Block → ℕ) → Type 0
Blind f = (b : Block) (at : Node) → nodes at ≡ nodes b.node → size at ≡ size b.node → f (with_node b at) ≡ f b

blind_nodes : Blind node_weight
blind_nodes b at n s = n

blind_bytes : (S : Schema) (version : ℕ) → Blind (byte_weight S version)
blind_bytes S version b at n s = ap (λ x. framing S version b + x) s

weight_emptied : (f : Block → ℕ) → Blind f → (name : ℕ) (blocks : List Named) → weight f (all_emptied name blocks) ≡ weight f blocks
weight_emptied f h name [] = refl
weight_emptied f h name (b ∷ blocks) =
    let aim : ℕ → Option ℕ = λ target. if target == name then None else Some target in
    ap₂ (λ x y. x + y)
    (h b.block (emptied name b.block.node) (nodes_retargeted aim b.block.node) (size_retargeted aim b.block.node))
    (weight_emptied f h name blocks)

weight_changed : (f : Block → ℕ) (name : ℕ) (g : Block → Block) → ((b : Block) → f (g b) ≡ f b) → (blocks : List Named)
    → weight f (changed name g blocks) ≡ weight f blocks
weight_changed f name g h [] = refl
weight_changed f name g h (b ∷ blocks) = elim (test (name == b.name)) [
  | inl q ↦ rw q (ap₂ (λ x y. x + y) (h b.block) (weight_changed f name g h blocks))
  | inr q ↦ rw q (ap (λ y. f b.block + y) (weight_changed f name g h blocks))
]

-- the edit makes nothing larger
abbrev Shrinks : Edit → Type 0
Shrinks (Remove name) = Unit {0}
Shrinks (Copy name at) = ⊥
Shrinks (Insert kind at) = ⊥
Shrinks (Replace name by) = name ≡ by
Shrinks (Move name at) = Unit {0}
Shrinks (Reorder names) = Unit {0}
Shrinks (Point from k to) = Unit {0}

module _ (S : Schema) (places : RolePlaces) (G : Graph) where
  alike : (e : Edit) → IsGraph G → Accepted S places G e → ((n : ℕ) → seen S places G e n ≡ find n G.blocks) → (f : Block → ℕ)
      → weight f (after S places G e).blocks ≡ weight f G.blocks
  alike e g a h f = weight_same f (after S places G e).blocks G.blocks (different-after S places G e g a) g.different
      (λ n. find-after S places G e g a n ∙ h n)

  same_block : (name by : ℕ) → name ≡ by → (n : ℕ) → seen S places G (Replace name by) n ≡ find n G.blocks
  same_block name by p n = elim (test (n == name)) [
    | inl q ↦ rw q (ap (λ x. find x G.blocks) (sym (eqb-true n name q ∙ p)))
    | inr q ↦ rw q refl
  ]

  lighter : (e : Edit) → Shrinks e → IsGraph G → Accepted S places G e → (f : Block → ℕ) → Blind f
      → weight f (after S places G e).blocks ≤ weight f G.blocks
  lighter (Remove name) s g a f h =
      let l = weight_less f name G.blocks in omega (arith, weight_emptied f h name (without name G.blocks), l)
  lighter (Copy name at) s g a f h = absurd s
  lighter (Insert kind at) s g a f h = absurd s
  lighter (Replace name by) s g a f h = omega (arith, alike (Replace name by) g a (same_block name by s) f)
  lighter (Move name at) s g a f h = omega (arith, alike (Move name at) g a (λ n. refl) f)
  lighter (Reorder names) s g a f h = omega (arith, alike (Reorder names) g a (λ n. refl) f)
  lighter (Point None k to) s g a f h = omega arith
  lighter (Point (Some name) k to) s g a f h =
      omega (
        arith,
        weight_changed f name (λ b. with_node b (with_target k to b.node))
            (λ b. h b (with_target k to b.node) (nodes_target k to b.node) (size_target k to b.node)) G.blocks,
      )

  footer_same : {X : Type 0} (part : Node → X) → ((f : ℕ → Option ℕ) (at : Node) → part (retargeted f at) ≡ part at)
      → ((k : ℕ) (to : Option ℕ) (at : Node) → part (with_target k to at) ≡ part at) → (e : Edit)
      → part (after S places G e).footer ≡ part G.footer
  footer_same part r w (Remove name) = r (λ target. if target == name then None else Some target) G.footer
  footer_same part r w (Copy name at) = by_block S places G (λ (x : Graph). part x.footer) (added G at) (λ b. refl) (find name G.blocks)
  footer_same part r w (Insert kind at) = by_number S places G (λ (x : Graph). part x.footer)
      (λ number. inserted places G kind at number (zero_of S (context_of G (Some number)) number)) (λ n. refl)
      (find_block S kind)
  footer_same part r w (Replace name by) = by_block S places G (λ (x : Graph). part x.footer)
      (λ b. record G { blocks = changed name (λ old. b) G.blocks }) (λ b. refl) (find by G.blocks)
  footer_same part r w (Move name at) = by_block S places G (λ (x : Graph). part x.footer)
      (λ b. record G { blocks = insert (without name G.blocks) at (record { name = name; block = b }) }) (λ b. refl)
      (find name G.blocks)
  footer_same part r w (Reorder names) = refl
  footer_same part r w (Point None k to) = w k to G.footer
  footer_same part r w (Point (Some name) k to) = refl

  types_same : (e : Edit) → Shrinks e → (after S places G e).types ≡ G.types
  types_same (Remove name) s = refl
  types_same (Copy name at) s = absurd s
  types_same (Insert kind at) s = absurd s
  types_same (Replace name by) s = types_are S places G (Replace name by)
  types_same (Move name at) s = types_are S places G (Move name at)
  types_same (Reorder names) s = refl
  types_same (Point None k to) s = refl
  types_same (Point (Some name) k to) s = refl

  fewer_blocks : (e : Edit) → Shrinks e → IsGraph G → Accepted S places G e → length (after S places G e).blocks ≤ length G.blocks
  fewer_blocks e s g a =
      let l = lighter e s g a (λ b. 1) (λ b at n s. refl) in
      omega (arith, weight_length (after S places G e).blocks, weight_length G.blocks, l)

  smaller : (e : Edit) → Shrinks e → IsGraph G → Accepted S places G e → Smaller S G (after S places G e)
  smaller e s g a = record {
    header = header_stays S places G e;
    version = ap (λ o. o.version) (origin_stays S places G e);
    types = types_same e s;
    count = fewer_blocks e s g a;
    nodes_in_blocks = lighter e s g a node_weight blind_nodes;
    bytes_in_blocks = lighter e s g a (byte_weight S G.origin.version) (blind_bytes S G.origin.version);
    nodes_in_footer = omega (arith, footer_same nodes nodes_retargeted nodes_target e);
    bytes_in_footer = omega (arith, footer_same size size_retargeted size_target e);
  }

  shrinks_within : (e : Edit) → Shrinks e → IsGraph G → Accepted S places G e → IsWithin S places G
      → IsWithin S places (after S places G e)
  shrinks_within e s g a w = record {
    few_blocks = let l = fewer_blocks e s g a in let m = w.few_blocks in omega (arith, l, m);
    few_nodes = let l = fewer_nodes S places G (after S places G e) (smaller e s g a) in
        let m = w.few_nodes in omega (arith, l, m);
    short = let l = fewer_bytes S places G (after S places G e) (smaller e s g a) in
        let m = w.short in omega (arith, l, m);
  }

-- ---- edits that ask for the limits themselves

not_more : (a b : ℕ) → (b < a → ⊥) → a ≤ b
not_more a b h = elim (test (nat_lt b a)) [ inl q ↦ absurd (h (ltb-true b a q)) | inr q ↦ ltb-false b a q ]

less : (a b : ℕ) → (b ≤ a → ⊥) → a < b
less a b h = elim (test (nat_lt a b)) [ inl q ↦ ltb-true a b q | inr q ↦ absurd (h (ltb-false a b q)) ]

large_within : (S : Schema) (places : RolePlaces) (G : Graph) → ((f : EditFault) → TooLarge S places G f → ⊥)
    → length G.blocks ≤ most_blocks → IsWithin S places G
large_within S places G h few = record {
  few_blocks = few;
  few_nodes = not_more (nodes_of (numbered places G)) most_nodes (λ l. not_first h TooManyNodes (l, refl));
  short = not_more (bytes_of S places G) most_file_bytes (λ l. not_second h TooLong (l, refl));
}

insert_length : (at : ℕ) (b : Named) (blocks : List Named) → length (insert blocks at b) ≡ suc (length blocks)
insert_length at b blocks =
    let e : weight (λ b. 1) (insert blocks at b) ≡ 1 + weight (λ b. 1) blocks = weight_insert (λ b. 1) at b blocks in
    omega (arith, e, weight_length (insert blocks at b), weight_length blocks)

count_copied : (G : Graph) (at : ℕ) (o : Option Block) (b : Block) → o ≡ Some b
    → length (option_map_or (added G at) o G).blocks ≡ suc (length G.blocks)
count_copied G at None b e = absurd cc
count_copied G at (Some x) b e = insert_length at (record { name = G.next; block = x }) G.blocks

count_replaced : (G : Graph) (name : ℕ) (o : Option Block)
    → length (option_map_or (λ b. record G { blocks = changed name (λ old. b) G.blocks }) o G).blocks ≡ length G.blocks
count_replaced G name None = refl
count_replaced G name (Some b) =
    sym (weight_length (changed name (λ old. b) G.blocks)) ∙ weight_changed (λ b. 1) name (λ old. b) (λ b. refl) G.blocks
    ∙ weight_length G.blocks

-- ---- insertions

abbrev own_bytes : List Step → ℕ
own_bytes [] = 0
own_bytes (s ∷ rest) = s.bytes + own_bytes rest

own_append : (a b : List Step) → own_bytes (a ++ b) ≡ own_bytes a + own_bytes b
own_append [] b = omega arith
own_append (s ∷ a) b = let e : own_bytes (a ++ b) ≡ own_bytes a + own_bytes b = own_append a b in omega (arith, e)

mutual
  count_steps : (d : ℕ) (at : Node) → Shallow (steps d at) → length (steps d at) ≡ nodes at
  count_steps d (node.Num width little bits) h = refl
  count_steps d (node.Line bytes) h = refl
  count_steps d (node.Ref strong wanted target) h = refl
  count_steps d (node.Text index) h = refl
  count_steps d (node.Bytes bytes) h = refl
  count_steps zero (node.Group members) h = absurd (let e : true ≡ false = h.0 in cc)
  count_steps (suc d) (node.Group members) h = let e = count_steps_in d members h.1 in omega (arith, e)
  count_steps d (node.Row items) h = let e = count_steps_in d items h.1 in omega (arith, e)

  count_steps_in : (d : ℕ) (members : Members) → Shallow (steps_in d members) → length (steps_in d members) ≡ nodes_in members
  count_steps_in d End h = refl
  count_steps_in d (Here at rest) h =
      let e = count_steps d at (front (steps d at) (steps_in d rest) h) in
      let e' = count_steps_in d rest (back (steps d at) (steps_in d rest) h) in
      omega (arith, e, e', length-append (steps d at) (steps_in d rest))
  count_steps_in d (Absent rest) h = let e = count_steps_in d rest h.1 in omega (arith, e)

mutual
  sum_steps : (d : ℕ) (at : Node) → Shallow (steps d at) → own_bytes (steps d at) ≡ size at
  sum_steps d (node.Num width little bits) h = omega arith
  sum_steps d (node.Line bytes) h = omega arith
  sum_steps d (node.Ref strong wanted target) h = refl
  sum_steps d (node.Text index) h = refl
  sum_steps d (node.Bytes bytes) h = omega arith
  sum_steps zero (node.Group members) h = absurd (let e : true ≡ false = h.0 in cc)
  sum_steps (suc d) (node.Group members) h = let e = sum_steps_in d members h.1 in omega (arith, e)
  sum_steps d (node.Row items) h = let e = sum_steps_in d items h.1 in omega (arith, e)

  sum_steps_in : (d : ℕ) (members : Members) → Shallow (steps_in d members) → own_bytes (steps_in d members) ≡ size_in members
  sum_steps_in d End h = refl
  sum_steps_in d (Here at rest) h =
      let e = sum_steps d at (front (steps d at) (steps_in d rest) h) in
      let e' = sum_steps_in d rest (back (steps d at) (steps_in d rest) h) in
      omega (arith, e, e', own_append (steps d at) (steps_in d rest))
  sum_steps_in d (Absent rest) h = let e = sum_steps_in d rest h.1 in omega (arith, e)

enough_nodes : (n b : ℕ) (list : List Step) → ((f : EditFault) → Overruns n b list f → ⊥) → 0 < length list
    → n + length list ≤ most_nodes + 1
enough_nodes n b [] h l = absurd (omega arith)
enough_nodes n b (s ∷ []) h l =
    let m : n ≤ most_nodes = not_more n most_nodes (λ x. not_first (not_second h) TooManyNodes (x, refl)) in omega (arith, m)
enough_nodes n b (s ∷ t ∷ list) h l =
    let m : suc n + length (t ∷ list) ≤ most_nodes + 1 =
    enough_nodes (suc n) (b + s.bytes) (t ∷ list) (not_second (not_second (not_second h))) (omega arith) in
    omega (arith, m)

enough_bytes : (n b : ℕ) (list : List Step) → ((f : EditFault) → Overruns n b list f → ⊥) → 0 < length list
    → b + own_bytes list ≤ most_file_bytes
enough_bytes n b [] h l = absurd (omega arith)
enough_bytes n b (s ∷ []) h l =
    let m : b + s.bytes ≤ most_file_bytes =
    not_more (b + s.bytes) most_file_bytes (λ x. not_first (not_second (not_second h)) TooLong (x, refl)) in omega (arith, m)
enough_bytes n b (s ∷ t ∷ list) h l =
    let m : b + s.bytes + own_bytes (t ∷ list) ≤ most_file_bytes =
    enough_bytes (suc n) (b + s.bytes) (t ∷ list) (not_second (not_second (not_second h))) (omega arith) in
    omega (arith, m)

some_node : (at : Node) → 0 < nodes at
some_node (node.Num width little bits) = omega arith
some_node (node.Line bytes) = omega arith
some_node (node.Ref strong wanted target) = omega arith
some_node (node.Text index) = omega arith
some_node (node.Bytes bytes) = omega arith
some_node (node.Group members) = omega arith
some_node (node.Row items) = omega arith

module _ (S : Schema) (places : RolePlaces) (G : Graph) (kind : List ℕ) (at number : ℕ) where
  -- the graph with this node put in
  abbrev Put : Node → Graph
  Put x = inserted places G kind at number x

  abbrev block : Node → Named
  block x = record { name = G.next; block = record (new_block S places G kind number) { node = x } }

  put_count : (x : Node) → length (Put x).blocks ≡ suc (length G.blocks)
  put_count x = insert_length at (block x) G.blocks

  put_header : (x y : Node) → (nodes (with_told places (told_of (Put x)) G.header) ≤ nodes (with_told places (told_of (Put y)) G.header))
      × (size (with_told places (told_of (Put x)) G.header) ≤ size (with_told places (told_of (Put y)) G.header))
  put_header x y =
      let f = told_fewer (Put y) (Put x) (omega (arith, put_count x, put_count y)) refl in
      (header_nodes places (told_of (Put x)) (told_of (Put y)) f G.header, header_size places (told_of (Put x)) (told_of (Put y)) f G.header)

  put_nodes : (x : Node) → nodes_of (numbered places (Put x)) + 1 ≤ nodes_of (numbered places (Put (node.Group End))) + nodes x
  put_nodes x =
      let w = weight_insert node_weight at (block x) G.blocks in
      let w' = weight_insert node_weight at (block (node.Group End)) G.blocks in
      let l = (put_header x (node.Group End)).0 in
      omega (arith, nodes_are places (Put x), nodes_are places (Put (node.Group End)), w, w', l)

  put_bytes : (x : Node) → bytes_of S places (Put x) ≤ bytes_of S places (Put (node.Group End)) + size x
  put_bytes x =
      let w = weight_insert (byte_weight S G.origin.version) at (block x) G.blocks in
      let w' = weight_insert (byte_weight S G.origin.version) at (block (node.Group End)) G.blocks in
      let l = (put_header x (node.Group End)).1 in
      omega (arith, bytes_are S places (Put x), bytes_are S places (Put (node.Group End)), w, w', l)

  put_within : find_block S kind ≡ Some number → Accepted S places G (Insert kind at)
      → IsWithin S places (Put (zero_of S (context_of G (Some number)) number))
  put_within e a =
      let zeros = zero_of S (context_of G (Some number)) number in
      let n = nodes_of (numbered places (Put (node.Group End))) in
      let b = bytes_of S places (Put (node.Group End)) in
      let list = steps most_depth zeros in
      let z = zero_steps S places G kind at number e a in
      let shallow = all_shallow n b list z.1 in
      let c : length list ≡ nodes zeros = count_steps most_depth zeros shallow in
      let s : own_bytes list ≡ size zeros = sum_steps most_depth zeros shallow in
      let some : 0 < length list = let p = some_node zeros in omega (arith, c, p) in
      let en : n + length list ≤ most_nodes + 1 = enough_nodes n b list z.1 some in
      let eb : b + own_bytes list ≤ most_file_bytes = enough_bytes n b list z.1 some in
      let room : length G.blocks < most_blocks = less (length G.blocks) most_blocks (λ l. z.0 TooManyBlocks (l, refl)) in
      record {
        few_blocks = omega (arith, put_count zeros, room);
        few_nodes = let l = put_nodes zeros in omega (arith, l, c, en);
        short = let l = put_bytes zeros in omega (arith, l, s, eb);
      }

keeps_within : (S : Schema) (places : RolePlaces) (G : Graph) (e : Edit) → IsGraph G → IsWithin S places G
    → Accepted S places G e → IsWithin S places (after S places G e)
keeps_within S places G (Remove name) g w a = shrinks_within S places G (Remove name) tt g a w
keeps_within S places G (Copy name at) g w a =
    let l = lives G name (not_first a) in
    let room : length G.blocks < most_blocks =
    less (length G.blocks) most_blocks (λ l. not_first (not_second (not_second a)) TooManyBlocks (l, refl)) in
    large_within S places (after S places G (Copy name at)) (not_first (not_second (not_second (not_second a))))
    (omega (arith, count_copied G at (find name G.blocks) l.0 l.1, room))
keeps_within S places G (Insert kind at) g w a =
    let t = declared S places G kind at a in
    subst (λ o. IsWithin S places (option_map_or
    (λ number. inserted places G kind at number (zero_of S (context_of G (Some number)) number)) o G)) (sym t.1)
    (put_within S places G kind at t.0 t.1 a)
keeps_within S places G (Replace name by) g w a = elim (either name by) [
  | inl p ↦ shrinks_within S places G (Replace name by) p g a w
  | inr p ↦
      let refuse : (f : EditFault) → First (Mistypes S G name by) (First (Where (Reaches G.blocks by name) WouldCycle)
      (TooLarge S places (after S places G (Replace name by)))) f → ⊥ = λ f x. not_second (not_second a) f (p, x) in
      let m = w.few_blocks in
      large_within S places (after S places G (Replace name by)) (not_second (not_second refuse))
      (omega (arith, count_replaced G name (find by G.blocks), m))
]
keeps_within S places G (Move name at) g w a = shrinks_within S places G (Move name at) tt g a w
keeps_within S places G (Reorder names) g w a = shrinks_within S places G (Reorder names) tt g a w
keeps_within S places G (Point from k to) g w a = shrinks_within S places G (Point from k to) tt g a w

pub keeps_fits : KeepsFits
keeps_fits S places G e spelled g h a = record {
  values = keeps_values S places G e spelled g h.values a;
  within = keeps_within S places G e g h.within a;
}

pub all_keep_fits : AllKeepFits
all_keep_fits S places G [] spelled g h a = (g, h)
all_keep_fits S places G (e ∷ edits) spelled g h a =
    all_keep_fits S places (after S places G e) edits spelled.1 (keeps_graph S places G e g a.0)
    (keeps_fits S places G e spelled.0 g h a.0) a.1
