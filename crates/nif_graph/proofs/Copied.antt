-- What is kept of a graph to which a copy of a block was put.
use Rattle.std.proofs.Common.{◌≡◌, ◌≢◌, inl, inr, ℕ, suc, ◌+◌, ◌-◌, ◌^◌, ◌<◌, ◌≤◌, Option, Some, None, IsSome, List, [], ◌∷◌, map, length, refl, sym, ◌∙◌, ap, ap₂, subst, arith}
use Rattle.std.specs.Prelude.{slice_get, unwrap_or, insert, vec_capacity}
use Rattle.std.specs.Option.{option_map_or}
use Rattle.nif_base.specs.Node.{Node, Bytes, nodes}
use Rattle.nif_base.specs.File.{Block, nodes_of}
use Rattle.nif_base.specs.Graph.{Named, Graph}
use Rattle.nif_region.specs.Contents as region
use Rattle.nif_value.specs.Trees.{Trees, IsLive}
use Rattle.nif_value.specs.declared.stores.TreeId.{TreeId}
use Rattle.nif_graph.specs.declared.slots.Slot.{Slot}
use Rattle.nif_graph.specs.declared.marks.Marks.{Marks}
use Rattle.nif_graph.specs.declared.graphs.Graph.TheInside.{Inside}
use Rattle.nif_graph.specs.Graph.{find, IsGraph}
use Rattle.nif_graph.specs.Slots.{Listed, place_in}
use Rattle.nif_graph.specs.State.{node_at, origin_of, Differ}
use Rattle.nif_graph.specs.Written.{numbered, is_indexed, rest_of, told_rows}
use Rattle.nif_graph.specs.Kept.{named_in, kept_keys, IsKept}
use Rattle.nif_graph.specs.Changes.{added, copied}
use Rattle.nif_graph.proofs.Keeping.{found_at}
use Rattle.nif_graph.proofs.Reading.{Kept}
use Rattle.nif_graph.proofs.Placing.{insert_from, map_insert, length-insert, differ_insert}
use Rattle.nif_graph.proofs.Changing.{added_graph, block_aims}
use Rattle.nif_graph.proofs.Totals.{larger_total}
use Rattle.nif_graph.proofs.Changed.{graph_with, same_named, inserted_nodes, slot_key}

same_list : (old new : Trees) (slots : List Slot)
    → ((k : ℕ) (c : Slot) → slice_get slots k ≡ Some c → region.find new.trees c.tree.run.key ≡ region.find old.trees c.tree.run.key)
    → map (named_in new) slots ≡ map (named_in old) slots
same_list old new [] each = refl
same_list old new (c ∷ slots) each =
    ap₂ (λ (x : Named) xs. x ∷ xs) (same_named old new c (each 0 c refl)) (same_list old new slots (λ k. each (suc k)))

module _ (g : Inside) (h : Kept g) (name p : ℕ) (s : Slot) (at : place_in name g.slots.slots ≡ Some p)
    (there : slice_get g.slots.slots p ≡ Some s) (place : ℕ) where
  abbrev G : Graph
  G = graph_with g g.store g.slots

  abbrev block : Block
  block = (named_in g.store s).block

  found : find name G.blocks ≡ Some block
  found = found_at g.store name p g.slots.slots s at there

  -- the nodes of the graph with the copy
  pub copied_total : nodes_of (numbered g.places (copied G name place))
      ≡ (nodes (node_at g.store s.tree) + told_rows g.places G.header) + nodes_of (numbered g.places G)
  copied_total =
      ap (λ o. nodes_of (numbered g.places (option_map_or (λ b. added G place b) o G))) found
      ∙ larger_total g.places (added G place block) G (nodes (node_at g.store s.tree))
      (record { header = refl; types = refl; blocks = length-insert G.blocks place (record { name = G.next; block = block }) })
      (inserted_nodes G.blocks place (record { name = G.next; block = block })) refl

  module _ (store : Trees) (copy : TreeId) (fresh : region.find g.store.trees copy.run.key ≡ None)
      (tree : region.find store.trees copy.run.key ≡ region.find g.store.trees s.tree.run.key)
      (others : (key : ℕ) → key ≢ copy.run.key → region.find store.trees key ≡ region.find g.store.trees key)
      (new : Slot) (new_is : new ≡ record { name = g.slots.next; kind = s.kind; index_word = s.index_word; tree = copy })
      (listed : Listed) (slots : listed.slots ≡ insert g.slots.slots place new) (next : listed.next ≡ g.slots.next + 1) where
    other_key : (key : ℕ) → IsLive g.store key → key ≢ copy.run.key
    other_key key live = λ e. none (region.find g.store.trees key) live (ap (λ k. region.find g.store.trees k) e ∙ fresh)
      where
        none : (o : Option Node) → IsSome o → o ≡ None → ⊥
        none None l e = absurd cc
        none (Some n) l e = cc

    kept_same : (key : ℕ) → IsLive g.store key → region.find store.trees key ≡ region.find g.store.trees key
    kept_same key live = others key (other_key key live)

    new_named : named_in store new ≡ record { name = g.slots.next; block = block }
    new_named =
        ap (λ (x : Slot). named_in store x) new_is
        ∙ ap (λ o. record { name = g.slots.next; block = record { kind = s.kind; index = s.index_word; node = unwrap_or o (Bytes []) } }) tree

    blocks_are : map (named_in store) listed.slots ≡ insert G.blocks place (record { name = G.next; block = block })
    blocks_are =
        ap (λ l. map (named_in store) l) slots ∙ map_insert (named_in store) g.slots.slots place new
        ∙ ap₂ (λ bs b. insert bs place b)
        (same_list g.store store g.slots.slots (λ k c e. kept_same c.tree.run.key (h.live (suc (suc k)) c.tree.run.key (slot_key g h k c e))))
        new_named

    header_same : region.find store.trees g.header.run.key ≡ region.find g.store.trees g.header.run.key
    header_same = kept_same g.header.run.key (h.live 0 g.header.run.key refl)

    added_view : graph_with g store listed ≡ added G place block
    added_view = λ i. record G {
      header = rest_of g.places (unwrap_or (header_same i) (Bytes []));
      blocks = blocks_are i;
      footer = unwrap_or (kept_same g.footer.run.key (h.live 1 g.footer.run.key refl) i) (Bytes []);
      next = (next ∙ (let e : g.slots.next + 1 ≡ suc g.slots.next = omega arith in e)) i;
    }

    pub copied_view : graph_with g store listed ≡ copied G name place
    copied_view = added_view ∙ sym (ap (λ o. option_map_or (λ b. added G place b) o G) found)

    more_keys : kept_keys g.header g.footer listed.slots ≡ insert (kept_keys g.header g.footer g.slots.slots) (suc (suc place)) copy.run.key
    more_keys =
        ap (λ l. g.header.run.key ∷ g.footer.run.key ∷ l)
        (ap (λ l. map (λ (x : Slot). x.tree.run.key) l) slots
        ∙ map_insert (λ (x : Slot). x.tree.run.key) g.slots.slots place new
        ∙ ap (λ (x : Slot). insert (map (λ (y : Slot). y.tree.run.key) g.slots.slots) place x.tree.run.key) new_is)

    pub copied_kept : (total room : ℕ) (marks : Marks)
        → total ≡ (nodes (node_at g.store s.tree) + told_rows g.places G.header) + g.nodes
        → store.building ≡ None → room + 1 ≡ g.room → listed.room + 1 ≡ g.slots.room
        → length marks.marks.items ≡ length g.marks.marks.items + 1
        → vec_capacity marks.marks ≡ vec_capacity g.marks.marks → vec_capacity marks.queue ≡ vec_capacity g.marks.queue
        → g.slots.next < 2 ^ 32 - 1
        → IsKept store g.header g.footer g.places (origin_of g.context g.strings) g.indexed g.types.items listed total marks room
    copied_kept total room marks count building left less len cap queue few = record {
      live = λ k key e. elim (insert_from (kept_keys g.header g.footer g.slots.slots) (suc (suc place)) k copy.run.key key
          (sym (ap (λ l. slice_get l k) more_keys) ∙ e)) [
            | inl q ↦ subst (λ n. IsLive store n) q (subst (λ o. IsSome o) (sym tree) (h.live (suc (suc p)) s.tree.run.key (slot_key g h p s there)))
            | inr r ↦ let l = h.live r.0 key r.1 in subst (λ o. IsSome o) (sym (kept_same key l)) l
          ];
      apart = subst Differ (sym more_keys)
          (differ_insert (kept_keys g.header g.footer g.slots.slots) (suc (suc place)) copy.run.key
          (λ k e. other_key copy.run.key (h.live k copy.run.key e) refl) h.apart);
      idle = building;
      tells_index = h.tells_index ∙ ap (λ o. is_indexed g.places (unwrap_or o (Bytes []))) (sym header_same);
      graph = subst IsGraph (sym added_view) (added_graph G place block h.graph (block_aims G h.graph name block found));
      counted = count ∙ ap (λ n. (nodes (node_at g.store s.tree) + told_rows g.places G.header) + n) h.counted ∙ sym copied_total
          ∙ sym (ap (λ x. nodes_of (numbered g.places x)) copied_view);
      marked = len ∙ ap (λ n. n + 1) h.marked ∙ sym next;
      queued = (let q : g.slots.next + g.room ≤ vec_capacity g.marks.queue = h.queued in omega (arith, queue, next, left));
      markable = (let q : g.slots.next + g.room ≤ vec_capacity g.marks.marks = h.markable in omega (arith, cap, next, left));
      roomy = (let r : g.room ≤ g.slots.room = h.roomy in omega (arith, left, less));
      few_types = h.few_types;
      few_names = (omega (arith, next));
    }
