-- What calls that change a graph are told, and what they tell.
use Rattle.std.proofs.Common.{◌≡◌, ◌≢◌, ℕ, ◌^◌, ◌-◌, ◌<◌, ◌≤◌, true, Option, Some, None, IsSome, IfSome, length, sym, ◌∙◌, ap, subst, arith}
use Rattle.std.specs.Prelude.{is_some, slice_get, insert}
use Rattle.std.specs.List.{remove}
use Rattle.nif_base.specs.Node.{Node}
use Rattle.nif_base.specs.Graph.{Graph}
use Rattle.nif_region.specs.Contents as region
use Rattle.nif_cells.specs.Building.{with_target}
use Rattle.nif_value.specs.Trees.{Trees}
use Rattle.nif_graph.specs.declared.slots.Slot.{Slot}
use Rattle.nif_graph.specs.declared.graphs.Graph.TheInside.{Inside}
use Rattle.nif_graph.specs.Graph.{is_live, reference}
use Rattle.nif_graph.specs.Slots.{Listed, place_in}
use Rattle.nif_graph.specs.State.{GraphState, node_at, origin_of}
use Rattle.nif_graph.specs.Kept.{IsKept}
use Rattle.nif_graph.specs.Changes.{targeted, moved}
use Rattle.std.proofs.lemmas.Option.{slice_get_within}
use Rattle.nif_graph.proofs.Tables.{slot_at}
use Rattle.nif_graph.proofs.Keeping.{node_there}
use Rattle.nif_graph.proofs.Reading.{Kept, state_of, has_place, asked_lives, foot_live}
use Rattle.nif_graph.proofs.Changed.{graph_with, stands, was_there, block_view, block_kept, root_view, root_kept, view_moved, kept_moved}

module _ (g : Inside) (S : GraphState) (v : state_of g ≡ S) (h : Kept g) where
  abbrev G : Graph
  G = graph_with g g.store g.slots

  same_graph : G ≡ S.graph
  same_graph = ap (λ (T : GraphState). T.graph) v

  -- ---- a target

  module _ (to : Option ℕ) (live : IfSome to (λ t. is_live t S.graph.blocks ≡ true)) where
    pub target_small : IfSome to (λ t. t < 2 ^ 32 - 1)
    target_small = by to live
      where
        by : (o : Option ℕ) → IfSome o (λ t. is_live t S.graph.blocks ≡ true) → IfSome o (λ t. t < 2 ^ 32 - 1)
        by None l = tt
        by (Some t) l =
            let below : t < g.slots.next = h.graph.below t (subst (λ (x : Graph). is_live t x.blocks ≡ true) (sym same_graph) l) in
            let few : g.slots.next < 2 ^ 32 = h.few_names in
            omega arith

    target_lives : (target : ℕ) → to ≡ Some target → is_live target G.blocks ≡ true
    target_lives target e =
        subst (λ (x : Graph). is_live target x.blocks ≡ true) (sym same_graph)
        (subst (λ o. IfSome o (λ t. is_live t S.graph.blocks ≡ true)) e live)

    module _ (name k : ℕ) (ref : IsSome (reference S.graph (Some name) k)) (s : Slot)
        (at : IfSome (place_in name g.slots.slots) (λ p. slice_get g.slots.slots p ≡ Some s)) (store : Trees)
        (tree : IfSome (region.find g.store.trees s.tree.run.key) (λ node. region.find store.trees s.tree.run.key ≡ Some (with_target k to node)))
        (others : (key : ℕ) → key ≢ s.tree.run.key → region.find store.trees key ≡ region.find g.store.trees key) where
      place : (p : ℕ) × (place_in name g.slots.slots ≡ Some p) × (slice_get g.slots.slots p ≡ Some s)
      place = stands name g.slots.slots s (has_place g S v h name (asked_lives g S v h name k ref)) at

      is : region.find store.trees s.tree.run.key ≡ Some (with_target k to (node_at g.store s.tree))
      is = subst (λ o. IfSome o (λ (node : Node). region.find store.trees s.tree.run.key ≡ Some (with_target k to node)))
          (was_there g h name place.0 s place.1 place.2) tree

      pub block_target_view : graph_with g store g.slots ≡ targeted S.graph (Some name) k to
      block_target_view = block_view g h name place.0 s place.1 place.2 store k to is others ∙ ap (λ x. targeted x (Some name) k to) same_graph

      pub block_target_kept : store.building ≡ g.store.building
          → IsKept store g.header g.footer g.places (origin_of g.context g.strings) g.indexed g.types.items g.slots g.nodes g.marks g.room
      block_target_kept building =
          block_kept g h name place.0 s place.1 place.2 store k to is others building
          (subst (λ x. is_some (reference x (Some name) k) ≡ true) (sym same_graph) ref) target_lives

    module _ (k : ℕ) (ref : IsSome (reference S.graph None k)) (store : Trees)
        (tree : IfSome (region.find g.store.trees g.footer.run.key) (λ node. region.find store.trees g.footer.run.key ≡ Some (with_target k to node)))
        (others : (key : ℕ) → key ≢ g.footer.run.key → region.find store.trees key ≡ region.find g.store.trees key) where
      root_is : region.find store.trees g.footer.run.key ≡ Some (with_target k to (node_at g.store g.footer))
      root_is = subst (λ o. IfSome o (λ (node : Node). region.find store.trees g.footer.run.key ≡ Some (with_target k to node)))
          (node_there g.store g.footer (foot_live g S v h)) tree

      pub root_target_view : graph_with g store g.slots ≡ targeted S.graph None k to
      root_target_view = root_view g h store k to root_is others ∙ ap (λ x. targeted x None k to) same_graph

      pub root_target_kept : store.building ≡ g.store.building
          → IsKept store g.header g.footer g.places (origin_of g.context g.strings) g.indexed g.types.items g.slots g.nodes g.marks g.room
      root_target_kept building =
          root_kept g h store k to root_is others building
          (subst (λ x. is_some (reference x None k) ≡ true) (sym same_graph) ref) target_lives

  -- ---- a place

  module _ (name : ℕ) (live : is_live name S.graph.blocks ≡ true) (p : ℕ) (at : place_in name g.slots.slots ≡ Some p) where
    pub place_within : p < length g.slots.slots
    place_within = let r = slot_at name g.slots.slots p at in slice_get_within g.slots.slots p r.0 r.1

    module _ (s : Slot) (there : slice_get g.slots.slots p ≡ Some s) (to : ℕ) (listed : Listed)
        (slots : listed.slots ≡ insert (remove g.slots.slots p) to s) (next : listed.next ≡ g.slots.next) where
      pub place_view : graph_with g g.store listed ≡ moved S.graph name to
      place_view = view_moved g h name p s at there to listed slots next ∙ ap (λ x. moved x name to) same_graph

      pub place_kept : listed.room ≡ g.slots.room
          → IsKept g.store g.header g.footer g.places (origin_of g.context g.strings) g.indexed g.types.items listed g.nodes g.marks g.room
      place_kept room = kept_moved g h name p s at there to listed slots next (subst (λ n. g.room ≤ n) (sym room) h.roomy)
