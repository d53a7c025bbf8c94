-- What is kept of a graph after a change.
use Rattle.std.proofs.Common.{◌≡◌, ◌≢◌, inl, inr, ℕ, zero, suc, ◌+◌, ◌^◌, ◌<◌, ◌≤◌, true, Option, Some, None, IsSome, IfSome, List, [], ◌∷◌, map, length, refl, sym, ◌∙◌, ap, ap₂, subst, arith}
use Rattle.std.proofs.lemmas.Bool.{eqb-true, eqb-false}
use Rattle.std.specs.Prelude.{◌==◌, is_some, slice_get, slice_set, unwrap_or, insert, vec_capacity}
use Rattle.std.specs.List.{remove}
use Rattle.std.specs.Option.{option_map, option_map_or}
use Rattle.nif_base.specs.Node.{Node, Bytes, nodes}
use Rattle.nif_base.specs.File.{Block, nodes_of}
use Rattle.nif_base.specs.Graph.{Named, Graph}
use Rattle.nif_region.specs.Contents as region
use Rattle.nif_cells.specs.Building.{with_target}
use Rattle.nif_cells.specs.TargetLaws.{target-nodes}
use Rattle.nif_value.specs.Trees.{Trees, IsLive}
use Rattle.nif_graph.specs.declared.slots.Slot.{Slot}
use Rattle.nif_graph.specs.declared.graphs.Graph.TheInside.{Inside}
use Rattle.nif_graph.specs.Graph.{find, is_live, reference, Different, IsGraph}
use Rattle.nif_graph.specs.Slots.{Listed, place_in}
use Rattle.nif_graph.specs.State.{node_at, origin_of, Differ}
use Rattle.nif_graph.specs.Written.{numbered, is_indexed, rest_of}
use Rattle.nif_graph.specs.Kept.{named_in, kept_graph, kept_keys, IsKept}
use Rattle.nif_graph.specs.Changes.{without, changed, with_node, moved, targeted}
use Rattle.nif_graph.proofs.Marking.{test}
use Rattle.nif_graph.proofs.Keeping.{get_map, node_there, found_at}
use Rattle.nif_graph.proofs.Reading.{Kept}
use Rattle.nif_graph.proofs.Placing.{remove_from, insert_from, map_remove, map_insert, length-insert, differ_remove, differ_insert, gone_key}
use Rattle.nif_graph.proofs.Changing.{targeted_graph, moved_graph}
use Rattle.nif_graph.proofs.Tables.{slot_at}
use Rattle.nif_graph.proofs.Totals.{named_nodes, same_total}

-- the graph of these trees and blocks, all else being as it is
abbrev pub graph_with : Inside → Trees → Listed → Graph
graph_with g store listed =
    kept_graph store g.header g.footer g.places (origin_of g.context g.strings) g.types.items listed

-- where a live name stands
pub stands : (name : ℕ) (slots : List Slot) (s : Slot) → IsSome (place_in name slots)
    → IfSome (place_in name slots) (λ p. slice_get slots p ≡ Some s)
    → (p : ℕ) × (place_in name slots ≡ Some p) × (slice_get slots p ≡ Some s)
stands name slots s some at = by (place_in name slots) refl some at
  where
    by : (o : Option ℕ) → place_in name slots ≡ o → IsSome o → IfSome o (λ p. slice_get slots p ≡ Some s)
        → (p : ℕ) × (place_in name slots ≡ Some p) × (slice_get slots p ≡ Some s)
    by None e some at = absurd cc
    by (Some p) e some at = (p, e, at)

-- keys at two places differ
pub differ_at : (keys : List ℕ) (i j a b : ℕ) → Differ keys → i ≢ j → slice_get keys i ≡ Some a → slice_get keys j ≡ Some b → a ≢ b
differ_at [] i j a b d ne at at' = absurd cc
differ_at (c ∷ keys) zero zero a b d ne at at' = absurd (ne refl)
differ_at (c ∷ keys) zero (suc j) a b d ne at at' = λ e.
    let is : c ≡ a = cc in
    d.0 j (at' ∙ ap (λ x. Some x) (sym (is ∙ e)))
differ_at (c ∷ keys) (suc i) zero a b d ne at at' = λ e.
    let is : c ≡ b = cc in
    d.0 i (at ∙ ap (λ x. Some x) (e ∙ sym is))
differ_at (c ∷ keys) (suc i) (suc j) a b d ne at at' = differ_at keys i j a b d.1 (λ e. ne (ap suc e)) at at'

-- the same block where its tree is the same
pub same_named : (old new : Trees) (s : Slot) → region.find new.trees s.tree.run.key ≡ region.find old.trees s.tree.run.key
    → named_in new s ≡ named_in old s
same_named old new s e =
    ap (λ o. record { name = s.name; block = record { kind = s.kind; index = s.index_word; node = unwrap_or o (Bytes []) } }) e

-- where no block has the name all is the same
pub changed_none : (name : ℕ) (f : Block → Block) (blocks : List Named) → find name blocks ≡ None → changed name f blocks ≡ blocks
changed_none name f [] h = refl
changed_none name f (b ∷ blocks) h = elim (test (name == b.name)) [
  | inl q ↦ absurd (let z : Some b.block ≡ None = rw q at h in cc)
  | inr q ↦ rw q (ap (λ l. b ∷ l) (changed_none name f blocks (rw q at h)))
]

-- a block in place of one
pub changed_map : (old new : Trees) (f : Block → Block) (name p : ℕ) (slots : List Slot) (s s' : Slot)
    → place_in name slots ≡ Some p → slice_get slots p ≡ Some s → s'.name ≡ s.name
    → (named_in new s').block ≡ f (named_in old s).block
    → ((k : ℕ) (c : Slot) → k ≢ p → slice_get slots k ≡ Some c → named_in new c ≡ named_in old c)
    → Different (map (named_in old) slots)
    → map (named_in new) (slice_set slots p s') ≡ changed name f (map (named_in old) slots)
changed_map old new f name p [] s s' h at same is others d = absurd cc
changed_map old new f name p (c ∷ slots) s s' h at same is others d = elim (test (name == c.name)) [
  | inl q ↦
      let e : ◌≡◌ {A = Option ℕ} (Some 0) (Some p) = rw q at h in
      let e' : 0 ≡ p = cc in
      rw q (here e' (subst (λ k. slice_get (c ∷ slots) k ≡ Some s) (sym e') at)
      ∙ ap (λ l. record (named_in old c) { block = f (named_in old c).block } ∷ l)
      (sym (changed_none name f (map (named_in old) slots) (ap (λ n. find n (map (named_in old) slots)) (eqb-true name c.name q) ∙ d.0))))
  | inr q ↦ rw q (later (λ k. changed_map old new f name k slots s s') (place_in name slots) refl (rw q at h))
]
  where
    rest_same : (xs : List Slot) → ((k : ℕ) (x : Slot) → slice_get xs k ≡ Some x → named_in new x ≡ named_in old x)
        → map (named_in new) xs ≡ map (named_in old) xs
    rest_same [] each = refl
    rest_same (x ∷ xs) each = ap₂ (λ (y : Named) ys. y ∷ ys) (each 0 x refl) (rest_same xs (λ k. each (suc k)))

    here : 0 ≡ p → slice_get (c ∷ slots) 0 ≡ Some s
        → map (named_in new) (slice_set (c ∷ slots) p s') ≡ record (named_in old c) { block = f (named_in old c).block } ∷ map (named_in old) slots
    here e there =
        let c_is : c ≡ s = cc in
        ap (λ k. map (named_in new) (slice_set (c ∷ slots) k s')) (sym e)
        ∙ ap₂ (λ (y : Named) ys. y ∷ ys)
        (ap₂ (λ n b. record { name = n; block = b }) same is
        ∙ ap (λ (x : Slot). record { name = x.name; block = f (named_in old x).block }) (sym c_is))
        (rest_same slots (λ k x a. others (suc k) x (λ z. let bad : suc k ≡ 0 = z ∙ sym e in omega arith) a))

    later : ((k : ℕ) → place_in name slots ≡ Some k → slice_get slots k ≡ Some s → s'.name ≡ s.name
        → (named_in new s').block ≡ f (named_in old s).block
        → ((j : ℕ) (x : Slot) → j ≢ k → slice_get slots j ≡ Some x → named_in new x ≡ named_in old x)
        → Different (map (named_in old) slots)
        → map (named_in new) (slice_set slots k s') ≡ changed name f (map (named_in old) slots))
        → (o : Option ℕ) → place_in name slots ≡ o → option_map suc o ≡ Some p
        → map (named_in new) (slice_set (c ∷ slots) p s') ≡ named_in old c ∷ changed name f (map (named_in old) slots)
    later more None e z = absurd cc
    later more (Some k) e z =
        let e' : suc k ≡ p = cc in
        ap (λ j. map (named_in new) (slice_set (c ∷ slots) j s')) (sym e')
        ∙ ap₂ (λ (y : Named) ys. y ∷ ys)
        (others 0 c (λ w. let bad : 0 ≡ suc k = w ∙ sym e' in omega arith) refl)
        (more k e (subst (λ j. slice_get (c ∷ slots) j ≡ Some s) (sym e') at) same is
        (λ j x ne a. others (suc j) x (λ w. ne (let bad : suc j ≡ suc k = w ∙ sym e' in omega arith)) a) d.1)

pub set_same : (slots : List Slot) (p : ℕ) (s : Slot) → slice_get slots p ≡ Some s → slice_set slots p s ≡ slots
set_same [] p s at = refl
set_same (c ∷ slots) zero s at = let e : c ≡ s = cc in ap (λ x. x ∷ slots) (sym e)
set_same (c ∷ slots) (suc p) s at = ap (λ l. c ∷ l) (set_same slots p s at)

-- the nodes of blocks of which one is changed
pub changed_nodes : (name : ℕ) (f : Block → Block) (blocks : List Named) → ((b : Block) → nodes (f b).node ≡ nodes b.node)
    → named_nodes (changed name f blocks) ≡ named_nodes blocks
changed_nodes name f [] h = refl
changed_nodes name f (b ∷ blocks) h = elim (test (name == b.name)) [
  | inl q ↦ rw q (ap₂ (λ x y. x + y) (h b.block) (changed_nodes name f blocks h))
  | inr q ↦ rw q (ap (λ y. nodes b.block.node + y) (changed_nodes name f blocks h))
]

pub changed_length : (name : ℕ) (f : Block → Block) (blocks : List Named) → length (changed name f blocks) ≡ length blocks
changed_length name f [] = refl
changed_length name f (b ∷ blocks) = ap suc (changed_length name f blocks)

pub inserted_nodes : (blocks : List Named) (at : ℕ) (b : Named) → named_nodes (insert blocks at b) ≡ nodes b.block.node + named_nodes blocks
inserted_nodes blocks zero b = refl
inserted_nodes [] (suc at) b = refl
inserted_nodes (c ∷ blocks) (suc at) b =
    let l : named_nodes (insert blocks at b) ≡ nodes b.block.node + named_nodes blocks = inserted_nodes blocks at b in omega arith

pub without_nodes : (blocks : List Named) (name : ℕ) (block : Block) → find name blocks ≡ Some block
    → named_nodes blocks ≡ nodes block.node + named_nodes (without name blocks)
without_nodes [] name block h = absurd cc
without_nodes (c ∷ blocks) name block h = elim (test (name == c.name)) [
  | inl q ↦
      let e : Some c.block ≡ Some block = rw q at h in
      let is : c.block ≡ block = cc in
      rw q (ap (λ (x : Block). nodes x.node + named_nodes blocks) is)
  | inr q ↦ rw q (more (without_nodes blocks name block (rw q at h)))
]
  where
    more : named_nodes blocks ≡ nodes block.node + named_nodes (without name blocks)
        → nodes c.block.node + named_nodes blocks ≡ nodes block.node + (nodes c.block.node + named_nodes (without name blocks))
    more e = omega arith

pub without_length : (blocks : List Named) (name : ℕ) (block : Block) → find name blocks ≡ Some block
    → length blocks ≡ suc (length (without name blocks))
without_length [] name block h = absurd cc
without_length (c ∷ blocks) name block h = elim (test (name == c.name)) [
  | inl q ↦ rw q refl
  | inr q ↦ rw q (ap suc (without_length blocks name block (rw q at h)))
]

pub without_remove : (store : Trees) (name p : ℕ) (slots : List Slot) → place_in name slots ≡ Some p
    → without name (map (named_in store) slots) ≡ map (named_in store) (remove slots p)
without_remove store name p [] h = absurd cc
without_remove store name p (c ∷ slots) h = elim (test (name == c.name)) [
  | inl q ↦
      let e : ◌≡◌ {A = Option ℕ} (Some 0) (Some p) = rw q at h in
      let e' : 0 ≡ p = cc in
      rw q (ap (λ k. map (named_in store) (remove (c ∷ slots) k)) e')
  | inr q ↦ rw q (later (λ k. without_remove store name k slots) (place_in name slots) refl (rw q at h))
]
  where
    later : ((k : ℕ) → place_in name slots ≡ Some k → without name (map (named_in store) slots) ≡ map (named_in store) (remove slots k))
        → (o : Option ℕ) → place_in name slots ≡ o → option_map suc o ≡ Some p
        → named_in store c ∷ without name (map (named_in store) slots) ≡ map (named_in store) (remove (c ∷ slots) p)
    later more None e z = absurd cc
    later more (Some k) e z =
        let e' : suc k ≡ p = cc in
        ap (λ l. named_in store c ∷ l) (more k e)
        ∙ ap (λ j. map (named_in store) (remove (c ∷ slots) j)) e'

-- the block at the place of a name has it
pub name_is : (name p : ℕ) (slots : List Slot) (s : Slot) → place_in name slots ≡ Some p → slice_get slots p ≡ Some s → s.name ≡ name
name_is name p slots s h at =
    let r = slot_at name slots p h in
    let e : Some r.0 ≡ Some s = sym r.1 ∙ at in
    let e' : r.0 ≡ s = cc in
    ap (λ (x : Slot). x.name) (sym e') ∙ r.2

module _ (g : Inside) (h : Kept g) where
  abbrev pub G : Graph
  G = graph_with g g.store g.slots

  abbrev pub keys : List ℕ
  keys = kept_keys g.header g.footer g.slots.slots

  pub slot_key : (k : ℕ) (s : Slot) → slice_get g.slots.slots k ≡ Some s → slice_get keys (suc (suc k)) ≡ Some s.tree.run.key
  slot_key k s at = get_map (λ (x : Slot). x.tree.run.key) g.slots.slots k s at

  pub header_apart : (k : ℕ) (s : Slot) → slice_get g.slots.slots k ≡ Some s → g.header.run.key ≢ s.tree.run.key
  header_apart k s at = differ_at keys 0 (suc (suc k)) g.header.run.key s.tree.run.key h.apart (λ e. cc) refl (slot_key k s at)

  pub footer_apart : (k : ℕ) (s : Slot) → slice_get g.slots.slots k ≡ Some s → g.footer.run.key ≢ s.tree.run.key
  footer_apart k s at = differ_at keys 1 (suc (suc k)) g.footer.run.key s.tree.run.key h.apart (λ e. cc) refl (slot_key k s at)

  pub ends_apart : g.header.run.key ≢ g.footer.run.key
  ends_apart = differ_at keys 0 1 g.header.run.key g.footer.run.key h.apart (λ e. cc) refl refl

  pub slots_apart : (k p : ℕ) (c s : Slot) → k ≢ p → slice_get g.slots.slots k ≡ Some c → slice_get g.slots.slots p ≡ Some s
      → c.tree.run.key ≢ s.tree.run.key
  slots_apart k p c s ne at there =
      differ_at keys (suc (suc k)) (suc (suc p)) c.tree.run.key s.tree.run.key h.apart (λ e. ne (omega arith)) (slot_key k c at) (slot_key p s there)

  -- ---- one tree has another target

  -- with the same blocks and other trees
  pub rekept : (store : Trees) → ((k key : ℕ) → slice_get keys k ≡ Some key → IsLive store key) → store.building ≡ g.store.building
      → region.find store.trees g.header.run.key ≡ region.find g.store.trees g.header.run.key
      → IsGraph (graph_with g store g.slots)
      → nodes_of (numbered g.places (graph_with g store g.slots)) ≡ nodes_of (numbered g.places G)
      → IsKept store g.header g.footer g.places (origin_of g.context g.strings) g.indexed g.types.items g.slots g.nodes g.marks g.room
  rekept store live building header graph counted = record {
    live = live;
    apart = h.apart;
    idle = building ∙ h.idle;
    tells_index = h.tells_index ∙ ap (λ o. is_indexed g.places (unwrap_or o (Bytes []))) (sym header);
    graph = graph;
    counted = h.counted ∙ sym counted;
    marked = h.marked;
    queued = h.queued;
    markable = h.markable;
    roomy = h.roomy;
    few_types = h.few_types;
    few_names = h.few_names;
  }

  module _ (store : Trees) (key k : ℕ) (to : Option ℕ) (node : Node)
      (was : region.find g.store.trees key ≡ Some node)
      (is : region.find store.trees key ≡ Some (with_target k to node))
      (others : (other : ℕ) → other ≢ key → region.find store.trees other ≡ region.find g.store.trees other) where
    still_live : (other : ℕ) → IsLive g.store other → IsLive store other
    still_live other live = elim (test (other == key)) [
      | inl q ↦ subst (λ o. IsSome o) (sym (ap (λ n. region.find store.trees n) (eqb-true other key q) ∙ is)) refl
      | inr q ↦ subst (λ o. IsSome o) (sym (others other (eqb-false other key q))) live
    ]

    pub still_keys : (j other : ℕ) → slice_get keys j ≡ Some other → IsLive store other
    still_keys j other at = still_live other (h.live j other at)

  -- a block's
  module _ (name p : ℕ) (s : Slot) (at : place_in name g.slots.slots ≡ Some p) (there : slice_get g.slots.slots p ≡ Some s) where
    pub block_found : find name (map (named_in g.store) g.slots.slots) ≡ Some (named_in g.store s).block
    block_found = found_at g.store name p g.slots.slots s at there

    pub was_there : region.find g.store.trees s.tree.run.key ≡ Some (node_at g.store s.tree)
    was_there = node_there g.store s.tree (h.live (suc (suc p)) s.tree.run.key (slot_key p s there))

    module _ (store : Trees) (k : ℕ) (to : Option ℕ)
        (is : region.find store.trees s.tree.run.key ≡ Some (with_target k to (node_at g.store s.tree)))
        (others : (other : ℕ) → other ≢ s.tree.run.key → region.find store.trees other ≡ region.find g.store.trees other) where
      abbrev f : Block → Block
      f block = with_node block (with_target k to block.node)

      pub block_view : graph_with g store g.slots ≡ targeted G (Some name) k to
      block_view = λ i. record G {
        header = rest_of g.places (unwrap_or (others g.header.run.key (header_apart p s there) i) (Bytes []));
        blocks = (ap (λ l. map (named_in store) l) (sym (set_same g.slots.slots p s there))
            ∙ changed_map g.store store f name p g.slots.slots s s at there refl
            (ap (λ o. record { kind = s.kind; index = s.index_word; node = unwrap_or o (Bytes []) }) is)
            (λ j c ne a. same_named g.store store c (others c.tree.run.key (slots_apart j p c s ne a there))) h.graph.different) i;
        footer = unwrap_or (others g.footer.run.key (footer_apart p s there) i) (Bytes []);
      }

      pub block_kept : store.building ≡ g.store.building → is_some (reference G (Some name) k) ≡ true
          → ((target : ℕ) → to ≡ Some target → is_live target G.blocks ≡ true)
          → IsKept store g.header g.footer g.places (origin_of g.context g.strings) g.indexed g.types.items g.slots g.nodes g.marks g.room
      block_kept building some live =
          rekept store (still_keys store s.tree.run.key k to (node_at g.store s.tree) was_there is others) building
          (others g.header.run.key (header_apart p s there))
          (subst IsGraph (sym block_view) (targeted_graph G (Some name) k to h.graph some live))
          (ap (λ x. nodes_of (numbered g.places x)) block_view
          ∙ same_total g.places (targeted G (Some name) k to) G
          (record { header = refl; types = refl; blocks = changed_length name f G.blocks })
          (changed_nodes name f G.blocks (λ b. target-nodes b.node k to)) refl)

  -- the footer's
  module _ (store : Trees) (k : ℕ) (to : Option ℕ)
      (is : region.find store.trees g.footer.run.key ≡ Some (with_target k to (node_at g.store g.footer)))
      (others : (other : ℕ) → other ≢ g.footer.run.key → region.find store.trees other ≡ region.find g.store.trees other) where
    all_same : (xs : List Slot) → ((j : ℕ) (x : Slot) → slice_get xs j ≡ Some x → named_in store x ≡ named_in g.store x)
        → map (named_in store) xs ≡ map (named_in g.store) xs
    all_same [] each = refl
    all_same (x ∷ xs) each = ap₂ (λ (y : Named) ys. y ∷ ys) (each 0 x refl) (all_same xs (λ j. each (suc j)))

    pub root_view : graph_with g store g.slots ≡ targeted G None k to
    root_view = λ i. record G {
      header = rest_of g.places (unwrap_or (others g.header.run.key ends_apart i) (Bytes []));
      blocks = all_same g.slots.slots (λ j x a. same_named g.store store x (others x.tree.run.key (λ e. footer_apart j x a (sym e)))) i;
      footer = unwrap_or (is i) (Bytes []);
    }

    pub root_kept : store.building ≡ g.store.building → is_some (reference G None k) ≡ true
        → ((target : ℕ) → to ≡ Some target → is_live target G.blocks ≡ true)
        → IsKept store g.header g.footer g.places (origin_of g.context g.strings) g.indexed g.types.items g.slots g.nodes g.marks g.room
    root_kept building some live =
        rekept store (still_keys store g.footer.run.key k to (node_at g.store g.footer)
        (node_there g.store g.footer (h.live 1 g.footer.run.key refl)) is others) building
        (others g.header.run.key ends_apart)
        (subst IsGraph (sym root_view) (targeted_graph G None k to h.graph some live))
        (ap (λ x. nodes_of (numbered g.places x)) root_view
        ∙ same_total g.places (targeted G None k to) G (record { header = refl; types = refl; blocks = refl }) refl
        (target-nodes (node_at g.store g.footer) k to))

  -- ---- a block stands at another place

  module _ (name p : ℕ) (s : Slot) (at : place_in name g.slots.slots ≡ Some p) (there : slice_get g.slots.slots p ≡ Some s)
      (to : ℕ) (listed : Listed) (slots : listed.slots ≡ insert (remove g.slots.slots p) to s) (next : listed.next ≡ g.slots.next) where
    abbrev new_blocks : List Named
    new_blocks = insert (without name G.blocks) to (record { name = name; block = (named_in g.store s).block })

    blocks_are : map (named_in g.store) listed.slots ≡ new_blocks
    blocks_are =
        ap (λ l. map (named_in g.store) l) slots ∙ map_insert (named_in g.store) (remove g.slots.slots p) to s
        ∙ ap₂ (λ bs n. insert bs to (record { name = n; block = (named_in g.store s).block }))
        (sym (without_remove g.store name p g.slots.slots at)) (name_is name p g.slots.slots s at there)

    pub view_moved : graph_with g g.store listed ≡ moved G name to
    view_moved =
        (λ i. record G { blocks = blocks_are i; next = next i })
        ∙ sym (ap (λ o. option_map_or
        (λ block. record G { blocks = insert (without name G.blocks) to (record { name = name; block = block }) }) o G)
        (found_at g.store name p g.slots.slots s at there))

    abbrev here : Graph
    here = record G { blocks = new_blocks }

    moved_keys : kept_keys g.header g.footer listed.slots ≡ insert (remove keys (suc (suc p))) (suc (suc to)) s.tree.run.key
    moved_keys =
        ap (λ l. g.header.run.key ∷ g.footer.run.key ∷ l)
        (ap (λ l. map (λ (x : Slot). x.tree.run.key) l) slots
        ∙ map_insert (λ (x : Slot). x.tree.run.key) (remove g.slots.slots p) to s
        ∙ ap (λ l. insert l to s.tree.run.key) (map_remove (λ (x : Slot). x.tree.run.key) g.slots.slots p))

    pub kept_moved : g.room ≤ listed.room
        → IsKept g.store g.header g.footer g.places (origin_of g.context g.strings) g.indexed g.types.items listed g.nodes g.marks g.room
    kept_moved roomy = record {
      live = λ k key is. elim (insert_from (remove keys (suc (suc p))) (suc (suc to)) k s.tree.run.key key
          (sym (ap (λ l. slice_get l k) moved_keys) ∙ is)) [
            | inl q ↦ subst (λ n. IsLive g.store n) q (h.live (suc (suc p)) s.tree.run.key (slot_key p s there))
            | inr r ↦ let o = remove_from keys (suc (suc p)) r.0 key r.1 in h.live o.0 key o.1
          ];
      apart = subst Differ (sym moved_keys)
          (differ_insert (remove keys (suc (suc p))) (suc (suc to)) s.tree.run.key
          (gone_key keys (suc (suc p)) s.tree.run.key h.apart (slot_key p s there)) (differ_remove keys (suc (suc p)) h.apart));
      idle = h.idle;
      tells_index = h.tells_index;
      graph = subst IsGraph (sym same) (moved_graph G name to (named_in g.store s).block h.graph (found_at g.store name p g.slots.slots s at there));
      counted = h.counted ∙ sym (ap (λ x. nodes_of (numbered g.places x)) same ∙ total);
      marked = h.marked ∙ sym next;
      queued = subst (λ n. n + g.room ≤ vec_capacity g.marks.queue) (sym next) h.queued;
      markable = subst (λ n. n + g.room ≤ vec_capacity g.marks.marks) (sym next) h.markable;
      roomy = roomy;
      few_types = h.few_types;
      few_names = subst (λ n. n < 2 ^ 32) (sym next) h.few_names;
    }
      where
        found : find name G.blocks ≡ Some (named_in g.store s).block
        found = found_at g.store name p g.slots.slots s at there

        same : graph_with g g.store listed ≡ here
        same = λ i. record G { blocks = blocks_are i; next = next i }

        total : nodes_of (numbered g.places here) ≡ nodes_of (numbered g.places G)
        total = same_total g.places here G
            (record {
              header = refl;
              types = refl;
              blocks = length-insert (without name G.blocks) to (record { name = name; block = (named_in g.store s).block })
                  ∙ sym (without_length G.blocks name (named_in g.store s).block found);
            })
            (inserted_nodes (without name G.blocks) to (record { name = name; block = (named_in g.store s).block })
            ∙ sym (without_nodes G.blocks name (named_in g.store s).block found)) refl
