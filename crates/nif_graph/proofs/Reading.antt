-- What is read of a graph in memory.
use Rattle.std.proofs.Common.{◌≡◌, ℕ, zero, suc, ◌<◌, true, Option, Some, None, IsSome, IfSome, List, [], ◌∷◌, map, length, refl, sym, ◌∙◌, ap, subst, arith}
use Rattle.std.specs.Prelude.{is_some, slice_get, option_and_then}
use Rattle.std.specs.Option.{option_map, IsSomeAnd}
use Rattle.nif_base.specs.Node.{Reference, refs}
use Rattle.nif_base.specs.File.{Block}
use Rattle.nif_base.specs.Graph.{Named}
use Rattle.nif_region.specs.Contents as region
use Rattle.nif_value.specs.Trees.{IsLive}
use Rattle.nif_graph.specs.declared.slots.Slot.{Slot}
use Rattle.nif_graph.specs.declared.graphs.Graph.TheInside.{Inside}
use Rattle.nif_graph.specs.Graph.{find, is_live, place, reference, IsGraph}
use Rattle.nif_graph.specs.Slots.{place_in}
use Rattle.nif_graph.specs.State.{GraphState, node_at, origin_of}
use Rattle.nif_graph.specs.Kept.{named_in, kept_graph, IsKept}
use Rattle.nif_graph.proofs.Keeping.{place_named, found_by_name, found_slot, placed, name_lives, node_there, get_map, length_map, header_live, footer_live, slots_live}

-- what is kept in a graph, and what contracts see of it
abbrev pub Kept : Inside → Type 0
Kept g = IsKept g.store g.header g.footer g.places (origin_of g.context g.strings) g.indexed g.types.items g.slots g.nodes g.marks g.room

abbrev pub state_of : Inside → GraphState
state_of g = record {
  graph = kept_graph g.store g.header g.footer g.places (origin_of g.context g.strings) g.types.items g.slots;
  places = g.places;
  trees = g.store;
  bytes = g.bytes;
  room = g.room;
  room_for_name = g.room_for_name;
}

pub within : {A : Type 0} (xs : List A) (k : ℕ) → IsSome (slice_get xs k) → k < length xs
within [] k h = absurd cc
within (x ∷ xs) zero h = omega arith
within (x ∷ xs) (suc k) h = let l : k < length xs = within xs k h in omega arith

module _ (g : Inside) (S : GraphState) (v : state_of g ≡ S) (h : Kept g) where
  pub head_live : IsLive g.store g.header.run.key
  head_live = header_live g.store g.header g.footer g.places (origin_of g.context g.strings) g.indexed g.types.items g.slots g.nodes g.marks g.room h

  pub foot_live : IsLive g.store g.footer.run.key
  foot_live = footer_live g.store g.header g.footer g.places (origin_of g.context g.strings) g.indexed g.types.items g.slots g.nodes g.marks g.room h

  pub block_count : length S.graph.blocks ≡ length g.slots.slots
  block_count = sym (ap (λ (T : GraphState). length T.graph.blocks) v) ∙ length_map (named_in g.store) g.slots.slots

  pub named_lives : (k : ℕ) (s : Slot) → slice_get g.slots.slots k ≡ Some s → is_live s.name S.graph.blocks ≡ true
  named_lives k s at = subst (λ (T : GraphState). is_live s.name T.graph.blocks ≡ true) v (name_lives g.store k g.slots.slots s at)

  pub name_there : (k : ℕ) (s : Slot) → slice_get g.slots.slots k ≡ Some s
      → option_map (λ (b : Named). b.name) (slice_get S.graph.blocks k) ≡ Some s.name
  name_there k s at =
      subst (λ (T : GraphState). option_map (λ (b : Named). b.name) (slice_get T.graph.blocks k) ≡ Some s.name) v
      (ap (λ o. option_map (λ (b : Named). b.name) o) (get_map (named_in g.store) g.slots.slots k s at))

  pub block_named : (k : ℕ) (s : Slot) → slice_get g.slots.slots k ≡ Some s
      → find s.name S.graph.blocks ≡ option_map (λ (b : Named). b.block) (slice_get S.graph.blocks k)
  block_named k s at =
      let there : slice_get (map (named_in g.store) g.slots.slots) k ≡ Some (named_in g.store s) = get_map (named_in g.store) g.slots.slots k s at in
      subst (λ (T : GraphState). find s.name T.graph.blocks ≡ option_map (λ (b : Named). b.block) (slice_get T.graph.blocks k)) v
      (found_by_name (map (named_in g.store) g.slots.slots) k (named_in g.store s) h.graph.different there
      ∙ sym (ap (λ o. option_map (λ (b : Named). b.block) o) there))

  pub place_is : (name : ℕ) → place_in name g.slots.slots ≡ place name S.graph.blocks
  place_is name = sym (place_named g.store name g.slots.slots) ∙ ap (λ (T : GraphState). place name T.graph.blocks) v

  pub footer_there : region.find S.trees.trees g.footer.run.key ≡ Some S.graph.footer
  footer_there =
      subst (λ (T : GraphState). region.find T.trees.trees g.footer.run.key ≡ Some T.graph.footer) v
      (node_there g.store g.footer foot_live)

  pub footer_is : region.find g.store.trees g.footer.run.key ≡ Some S.graph.footer
  footer_is =
      subst (λ (T : GraphState). region.find g.store.trees g.footer.run.key ≡ Some T.graph.footer) v
      (node_there g.store g.footer foot_live)

  pub target_lives : (from : Option ℕ) (k : ℕ) (r : Reference) → reference S.graph from k ≡ Some r
      → IfSome r.target (λ target. is_live target S.graph.blocks ≡ true)
  target_lives from k r at = by r.target refl
    where
      graph : IsGraph S.graph
      graph = subst (λ (T : GraphState). IsGraph T.graph) v h.graph

      by : (o : Option ℕ) → r.target ≡ o → IfSome o (λ target. is_live target S.graph.blocks ≡ true)
      by None e = tt
      by (Some target) e = graph.aimed from k r target at e

  pub asked_lives : (name k : ℕ) → IsSome (reference S.graph (Some name) k) → is_live name S.graph.blocks ≡ true
  asked_lives name k some = by (find name S.graph.blocks) some
    where
      by : (o : Option Block) → IsSome (option_and_then (λ node. slice_get (refs node) k) (option_map (λ (b : Block). b.node) o))
          → is_some o ≡ true
      by None h = absurd cc
      by (Some b) h = refl

  module _ (name : ℕ) (live : is_live name S.graph.blocks ≡ true) where
    lives : is_live name (map (named_in g.store) g.slots.slots) ≡ true
    lives = subst (λ (T : GraphState). is_live name T.graph.blocks ≡ true) (sym v) live

    pub has_place : IsSome (place_in name g.slots.slots)
    has_place = placed g.store name g.slots.slots lives

    module _ (s : Slot) (at : IfSome (place_in name g.slots.slots) (λ p. slice_get g.slots.slots p ≡ Some s)) where
      pub block_there : find name S.graph.blocks ≡ Some (named_in g.store s).block
      block_there =
          subst (λ (T : GraphState). find name T.graph.blocks ≡ Some (named_in g.store s).block) v
          (found_slot g.store name g.slots.slots s lives at)

      pub tree_live : IsLive g.store s.tree.run.key
      tree_live = by (place_in name g.slots.slots) has_place at
        where
          by : (o : Option ℕ) → IsSome o → IfSome o (λ p. slice_get g.slots.slots p ≡ Some s) → IsLive g.store s.tree.run.key
          by None some at = absurd cc
          by (Some p) some at =
              slots_live g.store g.header g.footer g.places (origin_of g.context g.strings) g.indexed g.types.items g.slots g.nodes g.marks g.room h
              p s at

      pub node_is : region.find g.store.trees s.tree.run.key ≡ Some (node_at g.store s.tree)
      node_is = node_there g.store s.tree tree_live

      pub tree_there : region.find S.trees.trees s.tree.run.key ≡ option_map (λ (b : Block). b.node) (find name S.graph.blocks)
      tree_there =
          ap (λ (T : GraphState). region.find T.trees.trees s.tree.run.key) (sym v) ∙ node_is
          ∙ ap (λ o. option_map (λ (b : Block). b.node) o) (sym block_there)

      pub reference_is : (k : ℕ) → reference S.graph (Some name) k ≡ slice_get (refs (node_at g.store s.tree)) k
      reference_is k =
          ap (λ o. option_and_then (λ node. slice_get (refs node) k) (option_map (λ (b : Block). b.node) o)) block_there

      -- a call that asks for a reference of the node that is there
      pub may_ask : (k : ℕ) → IsSome (reference S.graph (Some name) k)
          → IsSomeAnd (region.find g.store.trees s.tree.run.key) (λ node. k < length (refs node))
      may_ask k some =
          subst (λ o. IsSomeAnd o (λ node. k < length (refs node))) (sym node_is)
          (within (refs (node_at g.store s.tree)) k (subst IsSome (reference_is k) some))

      pub told : (k : ℕ) (r : Reference) → IfSome (region.find g.store.trees s.tree.run.key) (λ node. slice_get (refs node) k ≡ Some r)
          → reference S.graph (Some name) k ≡ Some r
      told k r is = reference_is k ∙ subst (λ o. IfSome o (λ node. slice_get (refs node) k ≡ Some r)) node_is is

      pub counted : (n : ℕ) → IfSome (region.find g.store.trees s.tree.run.key) (λ node. n ≡ length (refs node))
          → IfSome (find name S.graph.blocks) (λ b. n ≡ length (refs b.node))
      counted n is =
          subst (λ o. IfSome o (λ (b : Block). n ≡ length (refs b.node))) (sym block_there)
          (subst (λ o. IfSome o (λ node. n ≡ length (refs node))) node_is is)
