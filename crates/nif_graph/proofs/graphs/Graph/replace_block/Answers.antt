use Rattle.std.proofs.Common.{◌≡◌, ◌+◌, ◌-◌, ◌^◌, ◌<◌, ◌≤◌, IsSome, IfSome, refl, sym, ◌∙◌, ap, subst, arith}
use Rattle.std.specs.Option.{option_map_or}
use Rattle.nif_base.specs.Node.{Node, nodes}
use Rattle.nif_base.specs.File.{Block, nodes_of}
use Rattle.nif_value.specs.Trees.{most_cells}
use Rattle.nif_graph.specs.Written.{numbered}
use Rattle.nif_graph.specs.State.{GraphState, node_at, origin_of}
use Rattle.nif_graph.specs.Changes.{replaced_by, copy_cells}
use Rattle.nif_graph.proofs.Keeping.{restored}
use Rattle.nif_graph.proofs.Reading.{has_place, tree_live, block_there}
use Rattle.nif_graph.proofs.Pointing.{place_within}
use Rattle.nif_graph.proofs.Changed.{graph_with, stands, was_there}
use Rattle.nif_graph.proofs.Taken.{left_total}
use Rattle.nif_graph.proofs.Replaced.{going, replaced_total, replaced_view, replaced_kept}
use Rattle.nif_graph.proofs.graphs.Graph.replace_block.Goals as goal

pub place_there-place-requires : goal.place_there-place-requires
place_there-place-requires c = has_place c.self.inside c.args.self.now c.self.view_is c.self.invariant c.args.name c.requires.live

pub at-gone-requires : goal.at-gone-requires
at-gone-requires c = place_within c.self.inside c.args.self.now c.self.view_is c.self.invariant c.args.name c.requires.live c.place_there-place.result c.place_there-place.ensures

pub find-slot-requires : goal.find-slot-requires
find-slot-requires c = has_place c.self.inside c.args.self.now c.self.view_is c.self.invariant c.args.other c.requires.other

pub copy-requires-clause-live : goal.copy-requires-clause-live
copy-requires-clause-live c = tree_live c.self.inside c.args.self.now c.self.view_is c.self.invariant c.args.other c.requires.other c.find-slot.result c.find-slot.ensures.at

pub invariant_of-self : goal.invariant_of-self
invariant_of-self c =
    restored c.self.inside.store c.self.inside.header c.self.inside.footer c.self.inside.places (origin_of c.self.inside.context c.self.inside.strings) c.self.inside.indexed c.self.inside.types.items c.self.inside.slots c.self.inside.nodes c.self.inside.marks c.self.inside.room c.self.invariant
    c.copy.new.self c.in-Err.ensures.err (c.in-Err.ensures.building ∙ sym c.self.invariant.idle)

pub returns-in-Err-clause-succeeds : goal.returns-in-Err-clause-succeeds
returns-in-Err-clause-succeeds c enough trees =
    let at = stands c.args.other c.self.inside.slots.slots c.find-slot.result (has_place c.self.inside c.args.self.now c.self.view_is c.self.invariant c.args.other c.requires.other) c.find-slot.ensures.at in
    let cells : copy_cells c.args.self.now.graph c.args.other ≡ most_cells (node_at c.self.inside.store c.find-slot.result.tree) =
    ap (λ o. option_map_or (λ (b : Block). most_cells b.node) o 0) (block_there c.self.inside c.args.self.now c.self.view_is c.self.invariant c.args.other c.requires.other c.find-slot.result c.find-slot.ensures.at) in
    c.in-Err.ensures.succeeds
    (subst (λ o. IfSome o (λ (node : Node). most_cells node ≤ c.self.inside.store.spare_cells)) (sym (was_there c.self.inside c.self.invariant c.args.other at.0 c.find-slot.result at.1 at.2))
    (omega (arith, cells, enough, ap (λ (T : GraphState). T.trees.spare_cells) c.self.view_is)))
    (omega (arith, trees, ap (λ (T : GraphState). T.trees.spare_trees) c.self.view_is))

pub nodes-less-requires : goal.nodes-less-requires
nodes-less-requires c =
    let at = stands c.args.other c.self.inside.slots.slots c.find-slot.result (has_place c.self.inside c.args.self.now c.self.view_is c.self.invariant c.args.other c.requires.other) c.find-slot.ensures.at in
    subst (λ o. IsSome o) (sym (going c.self.inside c.self.invariant c.args.name c.place_there-place.result c.at-gone.result c.place_there-place.ensures c.at-gone.ensures c.args.other at.0 c.find-slot.result at.1 at.2 c.copy.new.self c.in-Ok.copy c.in-Ok.ensures.fresh c.in-Ok.ensures.tree c.in-Ok.ensures.others ∙ (was_there c.self.inside c.self.invariant c.args.name c.place_there-place.result c.at-gone.result c.place_there-place.ensures c.at-gone.ensures))) refl

pub nodes-more-requires : goal.nodes-more-requires
nodes-more-requires c =
    subst (λ o. IsSome o) (sym c.in-Ok.ensures.tree)
    (tree_live c.self.inside c.args.self.now c.self.view_is c.self.invariant c.args.other c.requires.other c.find-slot.result c.find-slot.ensures.at)

pub drop_tree-requires : goal.drop_tree-requires
drop_tree-requires c =
    let at = stands c.args.other c.self.inside.slots.slots c.find-slot.result (has_place c.self.inside c.args.self.now c.self.view_is c.self.invariant c.args.other c.requires.other) c.find-slot.ensures.at in
    subst (λ o. IsSome o) (sym (going c.self.inside c.self.invariant c.args.name c.place_there-place.result c.at-gone.result c.place_there-place.ensures c.at-gone.ensures c.args.other at.0 c.find-slot.result at.1 at.2 c.copy.new.self c.in-Ok.copy c.in-Ok.ensures.fresh c.in-Ok.ensures.tree c.in-Ok.ensures.others ∙ (was_there c.self.inside c.self.invariant c.args.name c.place_there-place.result c.at-gone.result c.place_there-place.ensures c.at-gone.ensures))) refl

pub set-requires-clause-within : goal.set-requires-clause-within
set-requires-clause-within c = place_within c.self.inside c.args.self.now c.self.view_is c.self.invariant c.args.name c.requires.live c.place_there-place.result c.place_there-place.ensures

pub overflow_sub-self : goal.overflow_sub-self
overflow_sub-self c =
    let at = stands c.args.other c.self.inside.slots.slots c.find-slot.result (has_place c.self.inside c.args.self.now c.self.view_is c.self.invariant c.args.other c.requires.other) c.find-slot.ensures.at in
    let more : c.nodes-more.result ≡ nodes (node_at c.self.inside.store c.find-slot.result.tree) =
    subst (λ o. IfSome o (λ (node : Node). c.nodes-more.result ≡ nodes node)) (c.in-Ok.ensures.tree ∙ (was_there c.self.inside c.self.invariant c.args.other at.0 c.find-slot.result at.1 at.2)) c.nodes-more.ensures in
    let less : c.nodes-less.result ≡ nodes (node_at c.self.inside.store c.at-gone.result.tree) =
    subst (λ o. IfSome o (λ (node : Node). c.nodes-less.result ≡ nodes node)) (going c.self.inside c.self.invariant c.args.name c.place_there-place.result c.at-gone.result c.place_there-place.ensures c.at-gone.ensures c.args.other at.0 c.find-slot.result at.1 at.2 c.copy.new.self c.in-Ok.copy c.in-Ok.ensures.fresh c.in-Ok.ensures.tree c.in-Ok.ensures.others ∙ (was_there c.self.inside c.self.invariant c.args.name c.place_there-place.result c.at-gone.result c.place_there-place.ensures c.at-gone.ensures)) c.nodes-less.ensures in
    let counted : c.self.inside.nodes ≡ nodes_of (numbered c.self.inside.places (graph_with c.self.inside c.self.inside.store c.self.inside.slots)) = c.self.invariant.counted in
    let within = left_total c.self.inside c.self.invariant c.args.name c.place_there-place.result c.at-gone.result c.place_there-place.ensures c.at-gone.ensures in
    omega (arith, less, counted, within)

pub overflow_add-self : goal.overflow_add-self
overflow_add-self c =
    let at = stands c.args.other c.self.inside.slots.slots c.find-slot.result (has_place c.self.inside c.args.self.now c.self.view_is c.self.invariant c.args.other c.requires.other) c.find-slot.ensures.at in
    let more : c.nodes-more.result ≡ nodes (node_at c.self.inside.store c.find-slot.result.tree) =
    subst (λ o. IfSome o (λ (node : Node). c.nodes-more.result ≡ nodes node)) (c.in-Ok.ensures.tree ∙ (was_there c.self.inside c.self.invariant c.args.other at.0 c.find-slot.result at.1 at.2)) c.nodes-more.ensures in
    let less : c.nodes-less.result ≡ nodes (node_at c.self.inside.store c.at-gone.result.tree) =
    subst (λ o. IfSome o (λ (node : Node). c.nodes-less.result ≡ nodes node)) (going c.self.inside c.self.invariant c.args.name c.place_there-place.result c.at-gone.result c.place_there-place.ensures c.at-gone.ensures c.args.other at.0 c.find-slot.result at.1 at.2 c.copy.new.self c.in-Ok.copy c.in-Ok.ensures.fresh c.in-Ok.ensures.tree c.in-Ok.ensures.others ∙ (was_there c.self.inside c.self.invariant c.args.name c.place_there-place.result c.at-gone.result c.place_there-place.ensures c.at-gone.ensures)) c.nodes-less.ensures in
    let counted : c.self.inside.nodes ≡ nodes_of (numbered c.self.inside.places (graph_with c.self.inside c.self.inside.store c.self.inside.slots)) = c.self.invariant.counted in
    let within = left_total c.self.inside c.self.invariant c.args.name c.place_there-place.result c.at-gone.result c.place_there-place.ensures c.at-gone.ensures in
    let small : nodes_of (numbered c.self.inside.places (replaced_by (graph_with c.self.inside c.self.inside.store c.self.inside.slots) c.args.name c.args.other)) < 2 ^ 32 =
    subst (λ (T : GraphState). nodes_of (numbered T.places (replaced_by T.graph c.args.name c.args.other)) < 2 ^ 32) (sym c.self.view_is) c.requires.nodes in
    let total = replaced_total c.self.inside c.self.invariant c.args.name c.place_there-place.result c.at-gone.result c.place_there-place.ensures c.at-gone.ensures c.args.other at.0 c.find-slot.result at.1 at.2 in
    omega (arith, less, more, counted, within, small, total)

pub invariant_of-self-2 : goal.invariant_of-self-2
invariant_of-self-2 c =
    let at = stands c.args.other c.self.inside.slots.slots c.find-slot.result (has_place c.self.inside c.args.self.now c.self.view_is c.self.invariant c.args.other c.requires.other) c.find-slot.ensures.at in
    let more : c.nodes-more.result ≡ nodes (node_at c.self.inside.store c.find-slot.result.tree) =
    subst (λ o. IfSome o (λ (node : Node). c.nodes-more.result ≡ nodes node)) (c.in-Ok.ensures.tree ∙ (was_there c.self.inside c.self.invariant c.args.other at.0 c.find-slot.result at.1 at.2)) c.nodes-more.ensures in
    let less : c.nodes-less.result ≡ nodes (node_at c.self.inside.store c.at-gone.result.tree) =
    subst (λ o. IfSome o (λ (node : Node). c.nodes-less.result ≡ nodes node)) (going c.self.inside c.self.invariant c.args.name c.place_there-place.result c.at-gone.result c.place_there-place.ensures c.at-gone.ensures c.args.other at.0 c.find-slot.result at.1 at.2 c.copy.new.self c.in-Ok.copy c.in-Ok.ensures.fresh c.in-Ok.ensures.tree c.in-Ok.ensures.others ∙ (was_there c.self.inside c.self.invariant c.args.name c.place_there-place.result c.at-gone.result c.place_there-place.ensures c.at-gone.ensures)) c.nodes-less.ensures in
    let counted : c.self.inside.nodes ≡ nodes_of (numbered c.self.inside.places (graph_with c.self.inside c.self.inside.store c.self.inside.slots)) = c.self.invariant.counted in
    let within = left_total c.self.inside c.self.invariant c.args.name c.place_there-place.result c.at-gone.result c.place_there-place.ensures c.at-gone.ensures in
    replaced_kept c.self.inside c.self.invariant c.args.name c.place_there-place.result c.at-gone.result c.place_there-place.ensures c.at-gone.ensures c.args.other at.0 c.find-slot.result at.1 at.2 c.copy.new.self c.in-Ok.copy c.in-Ok.ensures.fresh c.in-Ok.ensures.tree c.in-Ok.ensures.others c.drop_tree.new.self c.drop_tree.ensures.others
    (record { name = c.at-gone.result.name; kind = c.find-slot.result.kind; index_word = c.find-slot.result.index_word; tree = c.in-Ok.copy })
    refl refl refl refl c.set.new.self c.set.ensures.slots c.set.ensures.next
    (c.self.inside.nodes - c.nodes-less.result + c.nodes-more.result) (omega (arith, less, more, counted, within))
    (c.drop_tree.ensures.building ∙ c.in-Ok.ensures.building) c.set.ensures.room

pub returns-clause-graph : goal.returns-clause-graph
returns-clause-graph c =
    let at = stands c.args.other c.self.inside.slots.slots c.find-slot.result (has_place c.self.inside c.args.self.now c.self.view_is c.self.invariant c.args.other c.requires.other) c.find-slot.ensures.at in
    replaced_view c.self.inside c.self.invariant c.args.name c.place_there-place.result c.at-gone.result c.place_there-place.ensures c.at-gone.ensures c.args.other at.0 c.find-slot.result at.1 at.2 c.copy.new.self c.in-Ok.copy c.in-Ok.ensures.fresh c.in-Ok.ensures.tree c.in-Ok.ensures.others c.drop_tree.new.self c.drop_tree.ensures.others
    (record { name = c.at-gone.result.name; kind = c.find-slot.result.kind; index_word = c.find-slot.result.index_word; tree = c.in-Ok.copy })
    refl refl refl refl c.set.new.self c.set.ensures.slots c.set.ensures.next
    ∙ ap (λ (T : GraphState). replaced_by T.graph c.args.name c.args.other) c.self.view_is

pub returns-clause-cells : goal.returns-clause-cells
returns-clause-cells c =
    let at = stands c.args.other c.self.inside.slots.slots c.find-slot.result (has_place c.self.inside c.args.self.now c.self.view_is c.self.invariant c.args.other c.requires.other) c.find-slot.ensures.at in
    let cells : copy_cells c.args.self.now.graph c.args.other ≡ most_cells (node_at c.self.inside.store c.find-slot.result.tree) =
    ap (λ o. option_map_or (λ (b : Block). most_cells b.node) o 0) (block_there c.self.inside c.args.self.now c.self.view_is c.self.invariant c.args.other c.requires.other c.find-slot.result c.find-slot.ensures.at) in
    let spare : c.self.inside.store.spare_cells ≤ c.copy.new.self.spare_cells + most_cells (node_at c.self.inside.store c.find-slot.result.tree) =
    subst (λ o. IfSome o (λ (node : Node). c.self.inside.store.spare_cells ≤ c.copy.new.self.spare_cells + most_cells node)) (was_there c.self.inside c.self.invariant c.args.other at.0 c.find-slot.result at.1 at.2) c.in-Ok.ensures.spare in
    omega (arith, cells, spare, c.drop_tree.ensures.spare, ap (λ (T : GraphState). T.trees.spare_cells) c.self.view_is)
