-- What is kept of a graph of which a block was taken out.
use Rattle.std.proofs.Common.{◌≡◌, ◌≢◌, ℕ, zero, suc, ◌+◌, ◌^◌, ◌<◌, ◌≤◌, Option, Some, None, IsSome, List, [], ◌∷◌, map, length, refl, sym, ◌∙◌, ap, ap₂, subst, arith}
use Rattle.std.specs.Prelude.{slice_get, unwrap_or, vec_capacity}
use Rattle.std.specs.List.{remove}
use Rattle.std.specs.Option.{option_map}
use Rattle.nif_base.specs.Node.{Node, Bytes, nodes}
use Rattle.nif_base.specs.File.{nodes_of}
use Rattle.nif_base.specs.Graph.{Named, Graph}
use Rattle.nif_region.specs.Contents as region
use Rattle.nif_value.specs.Trees.{Trees, IsLive}
use Rattle.nif_graph.specs.declared.slots.Slot.{Slot}
use Rattle.nif_graph.specs.declared.graphs.Graph.TheInside.{Inside}
use Rattle.nif_graph.specs.Graph.{find, IsGraph}
use Rattle.nif_graph.specs.Slots.{Listed, place_in}
use Rattle.nif_graph.specs.State.{node_at, origin_of, Differ}
use Rattle.nif_graph.specs.Written.{numbered, is_indexed, rest_of, told_rows}
use Rattle.nif_graph.specs.Kept.{named_in, kept_keys, IsKept, SlotsLive}
use Rattle.nif_graph.specs.Changes.{without, emptied, all_emptied, taken_out}
use Rattle.nif_graph.proofs.Keeping.{found_at}
use Rattle.nif_graph.proofs.Reading.{Kept}
use Rattle.nif_graph.proofs.Placing.{remove_from, map_remove, differ_remove, gone_key}
use Rattle.nif_graph.proofs.Targets.{nodes-retargeted}
use Rattle.nif_graph.proofs.Changing.{empty, taken_graph}
use Rattle.nif_graph.proofs.Totals.{named_nodes, larger_total}
use Rattle.nif_graph.proofs.Changed.{graph_with, without_remove, without_nodes, without_length, slot_key, header_apart, footer_apart, ends_apart}

emptied_nodes : (name : ℕ) (blocks : List Named) → named_nodes (all_emptied name blocks) ≡ named_nodes blocks
emptied_nodes name [] = refl
emptied_nodes name (b ∷ blocks) = ap₂ (λ x y. x + y) (nodes-retargeted (empty name) b.block.node) (emptied_nodes name blocks)

emptied_length : (name : ℕ) (blocks : List Named) → length (all_emptied name blocks) ≡ length blocks
emptied_length name [] = refl
emptied_length name (b ∷ blocks) = ap suc (emptied_length name blocks)

-- the node of a tree that was emptied
node_emptied : (name : ℕ) (old new : Option Node) → IsSome old → new ≡ option_map (emptied name) old
    → unwrap_or new (Bytes []) ≡ emptied name (unwrap_or old (Bytes []))
node_emptied name None new h e = absurd cc
node_emptied name (Some node) new h e = ap (λ o. unwrap_or o (Bytes [])) e

emptied_map : (name : ℕ) (old new : Trees) (slots : List Slot)
    → ((k : ℕ) (c : Slot) → slice_get slots k ≡ Some c → IsLive old c.tree.run.key)
    → ((k : ℕ) (c : Slot) → slice_get slots k ≡ Some c
    → region.find new.trees c.tree.run.key ≡ option_map (emptied name) (region.find old.trees c.tree.run.key))
    → map (named_in new) slots ≡ all_emptied name (map (named_in old) slots)
emptied_map name old new [] live each = refl
emptied_map name old new (c ∷ slots) live each =
    ap₂ (λ (x : Named) xs. x ∷ xs)
    (ap (λ n. record { name = c.name; block = record { kind = c.kind; index = c.index_word; node = n } })
    (node_emptied name (region.find old.trees c.tree.run.key) (region.find new.trees c.tree.run.key) (live 0 c refl) (each 0 c refl)))
    (emptied_map name old new slots (λ k. live (suc k)) (λ k. each (suc k)))

module _ (g : Inside) (h : Kept g) (name p : ℕ) (s : Slot) (at : place_in name g.slots.slots ≡ Some p)
    (there : slice_get g.slots.slots p ≡ Some s) where
  abbrev G : Graph
  G = graph_with g g.store g.slots

  found : find name G.blocks ≡ Some (named_in g.store s).block
  found = found_at g.store name p g.slots.slots s at there

  -- the nodes of the graph, by those that are left
  pub left_total : nodes_of (numbered g.places G)
      ≡ (nodes (node_at g.store s.tree) + told_rows g.places G.header) + nodes_of (numbered g.places (taken_out G name))
  left_total =
      larger_total g.places G (taken_out G name) (nodes (node_at g.store s.tree))
      (record {
        header = refl;
        types = refl;
        blocks = without_length G.blocks name (named_in g.store s).block found ∙ ap suc (sym (emptied_length name (without name G.blocks)));
      })
      (without_nodes G.blocks name (named_in g.store s).block found
      ∙ ap (λ n. nodes (node_at g.store s.tree) + n) (sym (emptied_nodes name (without name G.blocks))))
      (sym (nodes-retargeted (empty name) G.footer))

  -- the key of a block that is left
  left_key : (k : ℕ) (c : Slot) → slice_get (remove g.slots.slots p) k ≡ Some c → c.tree.run.key ≢ s.tree.run.key
  left_key k c e = λ same.
      gone_key (kept_keys g.header g.footer g.slots.slots) (suc (suc p)) s.tree.run.key h.apart (slot_key g h p s there) (suc (suc k))
      (sym (ap (λ l. slice_get l k) (map_remove (λ (x : Slot). x.tree.run.key) g.slots.slots p))
      ∙ get_key (remove g.slots.slots p) k c e ∙ ap (λ n. Some n) same)
    where
      get_key : (xs : List Slot) (k : ℕ) (c : Slot) → slice_get xs k ≡ Some c → slice_get (map (λ (x : Slot). x.tree.run.key) xs) k ≡ Some c.tree.run.key
      get_key [] k c e = absurd cc
      get_key (x ∷ xs) zero c e = let is : x ≡ c = cc in ap (λ (y : Slot). Some y.tree.run.key) is
      get_key (x ∷ xs) (suc k) c e = get_key xs k c e

  module _ (listed : Listed) (slots : listed.slots ≡ remove g.slots.slots p) (next : listed.next ≡ g.slots.next)
      (store1 : Trees) (others1 : (key : ℕ) → key ≢ s.tree.run.key → region.find store1.trees key ≡ region.find g.store.trees key) where
    here : (k : ℕ) (c : Slot) → slice_get listed.slots k ≡ Some c → slice_get (remove g.slots.slots p) k ≡ Some c
    here k c e = sym (ap (λ l. slice_get l k) slots) ∙ e

    -- the trees that are left
    pub slots_left : SlotsLive store1 listed.slots
    slots_left k c e =
        let r = remove_from g.slots.slots p k c (here k c e) in
        subst (λ o. IsSome o) (sym (others1 c.tree.run.key (left_key k c (here k c e))))
        (h.live (suc (suc r.0)) c.tree.run.key (slot_key g h r.0 c r.1))

    module _ (store2 : Trees)
        (blocks2 : (k : ℕ) (c : Slot) → slice_get listed.slots k ≡ Some c
        → region.find store2.trees c.tree.run.key ≡ option_map (emptied name) (region.find store1.trees c.tree.run.key))
        (others2 : (key : ℕ) → ((k : ℕ) (c : Slot) → slice_get listed.slots k ≡ Some c → key ≢ c.tree.run.key)
        → region.find store2.trees key ≡ region.find store1.trees key) where
      footer_far : (k : ℕ) (c : Slot) → slice_get listed.slots k ≡ Some c → g.footer.run.key ≢ c.tree.run.key
      footer_far k c e = let r = remove_from g.slots.slots p k c (here k c e) in footer_apart g h r.0 c r.1

      header_far : (k : ℕ) (c : Slot) → slice_get listed.slots k ≡ Some c → g.header.run.key ≢ c.tree.run.key
      header_far k c e = let r = remove_from g.slots.slots p k c (here k c e) in header_apart g h r.0 c r.1

      footer_was : region.find store2.trees g.footer.run.key ≡ region.find g.store.trees g.footer.run.key
      footer_was = others2 g.footer.run.key footer_far ∙ others1 g.footer.run.key (footer_apart g h p s there)

      pub footer_left : IsLive store2 g.footer.run.key
      footer_left = subst (λ o. IsSome o) (sym footer_was) (h.live 1 g.footer.run.key refl)

      module _ (store3 : Trees)
          (tree3 : region.find store3.trees g.footer.run.key ≡ option_map (emptied name) (region.find store2.trees g.footer.run.key))
          (others3 : (key : ℕ) → key ≢ g.footer.run.key → region.find store3.trees key ≡ region.find store2.trees key) where
        header_same : region.find store3.trees g.header.run.key ≡ region.find g.store.trees g.header.run.key
        header_same =
            others3 g.header.run.key (ends_apart g h) ∙ others2 g.header.run.key header_far
            ∙ others1 g.header.run.key (header_apart g h p s there)

        footer_is : region.find store3.trees g.footer.run.key ≡ option_map (emptied name) (region.find g.store.trees g.footer.run.key)
        footer_is = tree3 ∙ ap (λ o. option_map (emptied name) o) footer_was

        each_is : (k : ℕ) (c : Slot) → slice_get listed.slots k ≡ Some c
            → region.find store3.trees c.tree.run.key ≡ option_map (emptied name) (region.find g.store.trees c.tree.run.key)
        each_is k c e =
            others3 c.tree.run.key (λ q. footer_far k c e (sym q)) ∙ blocks2 k c e
            ∙ ap (λ o. option_map (emptied name) o) (others1 c.tree.run.key (left_key k c (here k c e)))

        blocks_are : map (named_in store3) listed.slots ≡ all_emptied name (without name G.blocks)
        blocks_are =
            emptied_map name g.store store3 listed.slots
            (λ k c e. let r = remove_from g.slots.slots p k c (here k c e) in h.live (suc (suc r.0)) c.tree.run.key (slot_key g h r.0 c r.1))
            each_is
            ∙ ap (λ l. all_emptied name (map (named_in g.store) l)) slots
            ∙ ap (λ l. all_emptied name l) (sym (without_remove g.store name p g.slots.slots at))

        pub view_taken : graph_with g store3 listed ≡ taken_out G name
        view_taken = λ i. record G {
          header = rest_of g.places (unwrap_or (header_same i) (Bytes []));
          blocks = blocks_are i;
          footer = node_emptied name (region.find g.store.trees g.footer.run.key) (region.find store3.trees g.footer.run.key)
              (h.live 1 g.footer.run.key refl) footer_is i;
          next = next i;
        }

        left_keys : kept_keys g.header g.footer listed.slots ≡ remove (kept_keys g.header g.footer g.slots.slots) (suc (suc p))
        left_keys =
            ap (λ l. g.header.run.key ∷ g.footer.run.key ∷ l)
            (ap (λ l. map (λ (x : Slot). x.tree.run.key) l) slots ∙ map_remove (λ (x : Slot). x.tree.run.key) g.slots.slots p)

        some_map : (o : Option Node) → IsSome o → IsSome (option_map (emptied name) o)
        some_map None e = absurd cc
        some_map (Some n) e = refl

        all_live : (k key : ℕ) → slice_get (kept_keys g.header g.footer listed.slots) k ≡ Some key → IsLive store3 key
        all_live zero key e =
            let is : g.header.run.key ≡ key = cc in
            subst (λ n. IsLive store3 n) is (subst (λ o. IsSome o) (sym header_same) (h.live 0 g.header.run.key refl))
        all_live (suc zero) key e =
            let is : g.footer.run.key ≡ key = cc in
            subst (λ n. IsLive store3 n) is (subst (λ o. IsSome o) (sym footer_is)
            (some_map (region.find g.store.trees g.footer.run.key) (h.live 1 g.footer.run.key refl)))
        all_live (suc (suc k)) key e =
            let m = of_map listed.slots k key e in
            subst (λ n. IsLive store3 n) m.2 (subst (λ o. IsSome o) (sym (each_is k m.0 m.1))
            (some_map (region.find g.store.trees m.0.tree.run.key)
            (let r = remove_from g.slots.slots p k m.0 (here k m.0 m.1) in h.live (suc (suc r.0)) m.0.tree.run.key (slot_key g h r.0 m.0 r.1))))
          where
            of_map : (xs : List Slot) (k key : ℕ) → slice_get (map (λ (x : Slot). x.tree.run.key) xs) k ≡ Some key
                → (c : Slot) × (slice_get xs k ≡ Some c) × (c.tree.run.key ≡ key)
            of_map [] k key e = absurd cc
            of_map (x ∷ xs) zero key e = (x, refl, cc)
            of_map (x ∷ xs) (suc k) key e = of_map xs k key e

        pub kept_taken : (left : ℕ) → g.nodes ≡ (nodes (node_at g.store s.tree) + told_rows g.places G.header) + left
            → store3.building ≡ g.store.building → g.slots.room ≤ listed.room
            → IsKept store3 g.header g.footer g.places (origin_of g.context g.strings) g.indexed g.types.items listed left g.marks g.room
        kept_taken left count building roomy = record {
          live = all_live;
          apart = subst Differ (sym left_keys) (differ_remove (kept_keys g.header g.footer g.slots.slots) (suc (suc p)) h.apart);
          idle = building ∙ h.idle;
          tells_index = h.tells_index ∙ ap (λ o. is_indexed g.places (unwrap_or o (Bytes []))) (sym header_same);
          graph = subst IsGraph (sym view_taken) (taken_graph G name h.graph);
          counted = same_left left (nodes_of (numbered g.places (taken_out G name)))
              (nodes (node_at g.store s.tree) + told_rows g.places G.header) (sym count ∙ h.counted ∙ left_total)
              ∙ sym (ap (λ x. nodes_of (numbered g.places x)) view_taken);
          marked = h.marked ∙ sym next;
          queued = subst (λ n. n + g.room ≤ vec_capacity g.marks.queue) (sym next) h.queued;
          markable = subst (λ n. n + g.room ≤ vec_capacity g.marks.marks) (sym next) h.markable;
          roomy = (let r : g.room ≤ g.slots.room = h.roomy in omega arith);
          few_types = h.few_types;
          few_names = subst (λ n. n < 2 ^ 32) (sym next) h.few_names;
        }
          where
            same_left : (a b c : ℕ) → c + a ≡ c + b → a ≡ b
            same_left a b c e = omega arith
