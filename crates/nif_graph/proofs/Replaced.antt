-- What is kept of a graph where a copy of a block was put in place of another.
use Rattle.std.proofs.Common.{◌≡◌, ◌≢◌, ◌⊎◌, inl, inr, ℕ, zero, suc, ◌+◌, ◌≤◌, Option, Some, None, IsSome, List, [], ◌∷◌, map, refl, sym, ◌∙◌, ap, ap₂, subst, arith}
use Rattle.std.proofs.lemmas.Bool.{eqb-true}
use Rattle.std.specs.Prelude.{◌==◌, slice_get, slice_set, unwrap_or}
use Rattle.std.specs.Option.{option_map_or}
use Rattle.nif_base.specs.Node.{Node, Bytes, nodes}
use Rattle.nif_base.specs.File.{Block, nodes_of}
use Rattle.nif_base.specs.Graph.{Named, Graph}
use Rattle.nif_region.specs.Contents as region
use Rattle.nif_value.specs.Trees.{Trees, IsLive}
use Rattle.nif_value.specs.declared.stores.TreeId.{TreeId}
use Rattle.nif_graph.specs.declared.slots.Slot.{Slot}
use Rattle.nif_graph.specs.declared.graphs.Graph.TheInside.{Inside}
use Rattle.nif_graph.specs.Graph.{find, Different, IsGraph}
use Rattle.nif_graph.specs.Slots.{Listed, place_in}
use Rattle.nif_graph.specs.State.{node_at, origin_of, Differ}
use Rattle.nif_graph.specs.Written.{numbered, is_indexed, rest_of}
use Rattle.nif_graph.specs.Kept.{named_in, kept_keys, IsKept}
use Rattle.nif_graph.specs.Changes.{changed, replaced, replaced_by}
use Rattle.nif_graph.proofs.Marking.{test}
use Rattle.nif_graph.proofs.Keeping.{found_at}
use Rattle.nif_graph.proofs.Reading.{Kept}
use Rattle.nif_graph.proofs.Changing.{replaced_graph, block_aims}
use Rattle.nif_graph.proofs.Totals.{named_nodes, changed_total}
use Rattle.nif_graph.proofs.Changed.{graph_with, differ_at, same_named, changed_none, changed_map, changed_length, slot_key, slots_apart, header_apart, footer_apart}

-- an element of a list of which one is another
set_from : (xs : List ℕ) (p k y x : ℕ) → slice_get (slice_set xs p y) k ≡ Some x → (y ≡ x) ⊎ ((k ≢ p) × (slice_get xs k ≡ Some x))
set_from [] p k y x e = absurd cc
set_from (c ∷ xs) zero zero y x e = inl cc
set_from (c ∷ xs) zero (suc k) y x e = inr (λ z. omega arith, e)
set_from (c ∷ xs) (suc p) zero y x e = inr (λ z. omega arith, e)
set_from (c ∷ xs) (suc p) (suc k) y x e = elim (set_from xs p k y x e) [
  | inl q ↦ inl q
  | inr r ↦ inr (λ z. r.0 (omega arith), r.1)
]

differ_set : (keys : List ℕ) (p key : ℕ) → ((k : ℕ) → slice_get keys k ≡ Some key → ⊥) → Differ keys → Differ (slice_set keys p key)
differ_set [] p key new d = tt
differ_set (c ∷ keys) zero key new d = (λ k. new (suc k), d.1)
differ_set (c ∷ keys) (suc p) key new d = (
  λ k e. elim (set_from keys p k key c e) [
    | inl q ↦ new 0 (ap (λ x. Some x) (sym q))
    | inr r ↦ d.0 k r.1
  ],
  differ_set keys p key (λ k. new (suc k)) d.1,
)

map_set : (xs : List Slot) (p : ℕ) (y : Slot)
    → map (λ (x : Slot). x.tree.run.key) (slice_set xs p y) ≡ slice_set (map (λ (x : Slot). x.tree.run.key) xs) p y.tree.run.key
map_set [] p y = refl
map_set (c ∷ xs) zero y = refl
map_set (c ∷ xs) (suc p) y = ap (λ l. c.tree.run.key ∷ l) (map_set xs p y)

-- the nodes of blocks of which one is another
replaced_nodes : (name : ℕ) (block old : Block) (blocks : List Named) → Different blocks → find name blocks ≡ Some old
    → nodes old.node + named_nodes (changed name (λ b. block) blocks) ≡ nodes block.node + named_nodes blocks
replaced_nodes name block old [] d h = absurd cc
replaced_nodes name block old (c ∷ blocks) d h = elim (test (name == c.name)) [
  | inl q ↦
      let e : Some c.block ≡ Some old = rw q at h in
      let is : c.block ≡ old = cc in
      let none : find name blocks ≡ None = ap (λ n. find n blocks) (eqb-true name c.name q) ∙ d.0 in
      rw q (here (named_nodes (changed name (λ b. block) blocks)) (ap (λ (x : Block). nodes x.node) is)
      (ap named_nodes (changed_none name (λ b. block) blocks none)))
  | inr q ↦ rw q (later (replaced_nodes name block old blocks d.1 (rw q at h)))
]
  where
    here : (n : ℕ) → nodes c.block.node ≡ nodes old.node → n ≡ named_nodes blocks
        → nodes old.node + (nodes block.node + n) ≡ nodes block.node + (nodes c.block.node + named_nodes blocks)
    here n e z = omega arith

    later : nodes old.node + named_nodes (changed name (λ b. block) blocks) ≡ nodes block.node + named_nodes blocks
        → nodes old.node + (nodes c.block.node + named_nodes (changed name (λ b. block) blocks)) ≡ nodes block.node + (nodes c.block.node + named_nodes blocks)
    later e = omega arith

-- a block in place of itself
same_block : (name : ℕ) (block : Block) (blocks : List Named) → Different blocks → find name blocks ≡ Some block
    → changed name (λ b. block) blocks ≡ blocks
same_block name block [] d h = refl
same_block name block (c ∷ blocks) d h = elim (test (name == c.name)) [
  | inl q ↦
      let e : Some c.block ≡ Some block = rw q at h in
      let is : block ≡ c.block = cc in
      let none : find name blocks ≡ None = ap (λ n. find n blocks) (eqb-true name c.name q) ∙ d.0 in
      rw q (ap₂ (λ (b : Block) bs. record { name = c.name; block = b } ∷ bs) is (changed_none name (λ b. block) blocks none))
  | inr q ↦ rw q (ap (λ l. c ∷ l) (same_block name block blocks d.1 (rw q at h)))
]

pub replaced_same : (G : Graph) (name : ℕ) → IsGraph G → replaced_by G name name ≡ G
replaced_same G name g = by (find name G.blocks) refl
  where
    by : (o : Option Block) → find name G.blocks ≡ o → option_map_or (λ block. replaced G name block) o G ≡ G
    by None e = refl
    by (Some block) e = ap (λ bs. record G { blocks = bs }) (same_block name block G.blocks g.different e)

module _ (g : Inside) (h : Kept g) (name p : ℕ) (s : Slot) (at : place_in name g.slots.slots ≡ Some p)
    (there : slice_get g.slots.slots p ≡ Some s) (other q : ℕ) (t : Slot) (at' : place_in other g.slots.slots ≡ Some q)
    (there' : slice_get g.slots.slots q ≡ Some t) where
  abbrev G : Graph
  G = graph_with g g.store g.slots

  abbrev block : Block
  block = (named_in g.store t).block

  found : find other G.blocks ≡ Some block
  found = found_at g.store other q g.slots.slots t at' there'

  -- the nodes of the graph before and after
  pub replaced_total : nodes (node_at g.store s.tree) + nodes_of (numbered g.places (replaced_by G name other))
      ≡ nodes (node_at g.store t.tree) + nodes_of (numbered g.places G)
  replaced_total =
      ap (λ o. nodes (node_at g.store s.tree) + nodes_of (numbered g.places (option_map_or (λ b. replaced G name b) o G))) found
      ∙ changed_total g.places (replaced G name block) G (nodes (node_at g.store s.tree)) (nodes (node_at g.store t.tree))
      (record { header = refl; types = refl; blocks = changed_length name (λ b. block) G.blocks })
      (replaced_nodes name block (named_in g.store s).block G.blocks h.graph.different (found_at g.store name p g.slots.slots s at there)) refl

  module _ (store1 : Trees) (copy : TreeId) (fresh : region.find g.store.trees copy.run.key ≡ None)
      (tree1 : region.find store1.trees copy.run.key ≡ region.find g.store.trees t.tree.run.key)
      (others1 : (key : ℕ) → key ≢ copy.run.key → region.find store1.trees key ≡ region.find g.store.trees key) where
    other_key : (key : ℕ) → IsLive g.store key → key ≢ copy.run.key
    other_key key live = λ e. none (region.find g.store.trees key) live (ap (λ k. region.find g.store.trees k) e ∙ fresh)
      where
        none : (o : Option Node) → IsSome o → o ≡ None → ⊥
        none None l e = absurd cc
        none (Some n) l e = cc

    slot_live : (k : ℕ) (c : Slot) → slice_get g.slots.slots k ≡ Some c → IsLive g.store c.tree.run.key
    slot_live k c e = h.live (suc (suc k)) c.tree.run.key (slot_key g h k c e)

    -- the tree that goes is as it was
    pub going : region.find store1.trees s.tree.run.key ≡ region.find g.store.trees s.tree.run.key
    going = others1 s.tree.run.key (other_key s.tree.run.key (slot_live p s there))

    module _ (store : Trees) (others : (key : ℕ) → key ≢ s.tree.run.key → region.find store.trees key ≡ region.find store1.trees key)
        (new : Slot) (same_name : new.name ≡ s.name) (same_kind : new.kind ≡ t.kind) (same_word : new.index_word ≡ t.index_word)
        (new_tree : new.tree ≡ copy)
        (listed : Listed) (slots : listed.slots ≡ slice_set g.slots.slots p new) (next : listed.next ≡ g.slots.next) where
      kept_same : (key : ℕ) → IsLive g.store key → key ≢ s.tree.run.key → region.find store.trees key ≡ region.find g.store.trees key
      kept_same key live ne = others key ne ∙ others1 key (other_key key live)

      copy_is : region.find store.trees copy.run.key ≡ region.find g.store.trees t.tree.run.key
      copy_is = others copy.run.key (λ e. other_key s.tree.run.key (slot_live p s there) (sym e)) ∙ tree1

      new_block : (named_in store new).block ≡ block
      new_block = λ i. record {
        kind = same_kind i;
        index = same_word i;
        node = (ap (λ (x : TreeId). node_at store x) new_tree ∙ ap (λ o. unwrap_or o (Bytes [])) copy_is) i;
      }

      blocks_are : map (named_in store) listed.slots ≡ changed name (λ b. block) G.blocks
      blocks_are =
          ap (λ l. map (named_in store) l) slots
          ∙ changed_map g.store store (λ b. block) name p g.slots.slots s new at there same_name new_block
          (λ k c ne e. same_named g.store store c (kept_same c.tree.run.key (slot_live k c e) (slots_apart g h k p c s ne e there)))
          h.graph.different

      header_same : region.find store.trees g.header.run.key ≡ region.find g.store.trees g.header.run.key
      header_same = kept_same g.header.run.key (h.live 0 g.header.run.key refl) (header_apart g h p s there)

      over_view : graph_with g store listed ≡ replaced G name block
      over_view = λ i. record G {
        header = rest_of g.places (unwrap_or (header_same i) (Bytes []));
        blocks = blocks_are i;
        footer = unwrap_or (kept_same g.footer.run.key (h.live 1 g.footer.run.key refl) (footer_apart g h p s there) i) (Bytes []);
        next = next i;
      }

      pub replaced_view : graph_with g store listed ≡ replaced_by G name other
      replaced_view = over_view ∙ sym (ap (λ o. option_map_or (λ b. replaced G name b) o G) found)

      set_keys : kept_keys g.header g.footer listed.slots ≡ slice_set (kept_keys g.header g.footer g.slots.slots) (suc (suc p)) copy.run.key
      set_keys =
          ap (λ l. g.header.run.key ∷ g.footer.run.key ∷ l)
          (ap (λ l. map (λ (x : Slot). x.tree.run.key) l) slots ∙ map_set g.slots.slots p new
          ∙ ap (λ (x : TreeId). slice_set (map (λ (y : Slot). y.tree.run.key) g.slots.slots) p x.run.key) new_tree)

      pub replaced_kept : (total : ℕ) → nodes (node_at g.store s.tree) + total ≡ nodes (node_at g.store t.tree) + g.nodes
          → store.building ≡ None → listed.room ≡ g.slots.room
          → IsKept store g.header g.footer g.places (origin_of g.context g.strings) g.indexed g.types.items listed total g.marks g.room
      replaced_kept total count building room = record {
        live = λ k key e. elim (set_from (kept_keys g.header g.footer g.slots.slots) (suc (suc p)) k copy.run.key key
            (sym (ap (λ l. slice_get l k) set_keys) ∙ e)) [
              | inl z ↦ subst (λ n. IsLive store n) z (subst (λ o. IsSome o) (sym copy_is) (slot_live q t there'))
              | inr r ↦ let l = h.live k key r.1 in
                  subst (λ o. IsSome o) (sym (kept_same key l
                  (differ_at (kept_keys g.header g.footer g.slots.slots) k (suc (suc p)) key s.tree.run.key h.apart r.0 r.1 (slot_key g h p s there)))) l
            ];
        apart = subst Differ (sym set_keys)
            (differ_set (kept_keys g.header g.footer g.slots.slots) (suc (suc p)) copy.run.key
            (λ k e. other_key copy.run.key (h.live k copy.run.key e) refl) h.apart);
        idle = building;
        tells_index = h.tells_index ∙ ap (λ o. is_indexed g.places (unwrap_or o (Bytes []))) (sym header_same);
        graph = subst IsGraph (sym over_view) (replaced_graph G name block h.graph (block_aims G h.graph other block found));
        counted = same_left total (nodes_of (numbered g.places (replaced_by G name other))) (nodes (node_at g.store s.tree))
            (count ∙ ap (λ n. nodes (node_at g.store t.tree) + n) h.counted ∙ sym replaced_total)
            ∙ sym (ap (λ x. nodes_of (numbered g.places x)) replaced_view);
        marked = h.marked ∙ sym next;
        queued = (let l = h.queued in omega (arith, next, l));
        markable = (let l = h.markable in omega (arith, next, l));
        roomy = subst (λ n. g.room ≤ n) (sym room) h.roomy;
        few_types = h.few_types;
        few_names = (let l = h.few_names in omega (arith, next, l));
      }
        where
          same_left : (a b c : ℕ) → c + a ≡ c + b → a ≡ b
          same_left a b c e = omega arith
