use Rattle.std.proofs.Common.{◌≡◌, ◌+◌, ◌-◌, ◌^◌, ◌<◌, ◌≤◌, IsSome, IfSome, refl, sym, ◌∙◌, ap, subst, arith}
use Rattle.std.specs.Option.{option_map_or}
use Rattle.nif_base.specs.Node.{Node, nodes}
use Rattle.nif_base.specs.File.{Block, nodes_of}
use Rattle.nif_value.specs.Trees.{most_cells}
use Rattle.nif_graph.specs.Written.{numbered, told_rows}
use Rattle.nif_graph.specs.State.{GraphState, node_at, origin_of}
use Rattle.nif_graph.specs.Changes.{copied, copy_cells}
use Rattle.nif_graph.proofs.Keeping.{restored}
use Rattle.nif_graph.proofs.Reading.{has_place, tree_live, block_there}
use Rattle.nif_graph.proofs.Changed.{graph_with, stands, was_there}
use Rattle.nif_graph.proofs.Copied.{copied_total, copied_view, copied_kept}
use Rattle.nif_graph.proofs.graphs.Graph.copy_block.Goals as goal

pub find-slot-requires : goal.find-slot-requires
find-slot-requires c = has_place c.self.inside c.args.self.now c.self.view_is c.self.invariant c.args.name c.requires.live

pub copy-requires-clause-live : goal.copy-requires-clause-live
copy-requires-clause-live c = tree_live c.self.inside c.args.self.now c.self.view_is c.self.invariant c.args.name c.requires.live c.find-slot.result c.find-slot.ensures.at

pub invariant_of-self : goal.invariant_of-self
invariant_of-self c =
    restored c.self.inside.store c.self.inside.header c.self.inside.footer c.self.inside.places (origin_of c.self.inside.context c.self.inside.strings) c.self.inside.indexed c.self.inside.types.items c.self.inside.slots c.self.inside.nodes c.self.inside.marks c.self.inside.room c.self.invariant
    c.copy.new.self c.in-Err.ensures.err (c.in-Err.ensures.building ∙ sym c.self.invariant.idle)

pub returns-in-Err-clause-succeeds : goal.returns-in-Err-clause-succeeds
returns-in-Err-clause-succeeds c enough trees =
    let at = stands c.args.name c.self.inside.slots.slots c.find-slot.result (has_place c.self.inside c.args.self.now c.self.view_is c.self.invariant c.args.name c.requires.live) c.find-slot.ensures.at in
    let cells : copy_cells c.args.self.now.graph c.args.name ≡ most_cells (node_at c.self.inside.store c.find-slot.result.tree) =
    ap (λ o. option_map_or (λ (b : Block). most_cells b.node) o 0) (block_there c.self.inside c.args.self.now c.self.view_is c.self.invariant c.args.name c.requires.live c.find-slot.result c.find-slot.ensures.at) in
    c.in-Err.ensures.succeeds
    (subst (λ o. IfSome o (λ (node : Node). most_cells node ≤ c.self.inside.store.spare_cells)) (sym (was_there c.self.inside c.self.invariant c.args.name at.0 c.find-slot.result at.1 at.2))
    (omega (arith, cells, enough, ap (λ (T : GraphState). T.trees.spare_cells) c.self.view_is)))
    (omega (arith, trees, ap (λ (T : GraphState). T.trees.spare_trees) c.self.view_is))

pub nodes-more-requires : goal.nodes-more-requires
nodes-more-requires c =
    subst (λ o. IsSome o) (sym c.in-Ok.ensures.tree)
    (tree_live c.self.inside c.args.self.now c.self.view_is c.self.invariant c.args.name c.requires.live c.find-slot.result c.find-slot.ensures.at)

pub overflow_add-self : goal.overflow_add-self
overflow_add-self c =
    let at = stands c.args.name c.self.inside.slots.slots c.find-slot.result (has_place c.self.inside c.args.self.now c.self.view_is c.self.invariant c.args.name c.requires.live) c.find-slot.ensures.at in
    let more : c.nodes-more.result ≡ nodes (node_at c.self.inside.store c.find-slot.result.tree) =
    subst (λ o. IfSome o (λ (node : Node). c.nodes-more.result ≡ nodes node)) (c.in-Ok.ensures.tree ∙ (was_there c.self.inside c.self.invariant c.args.name at.0 c.find-slot.result at.1 at.2)) c.nodes-more.ensures in
    let rows : c.args.rows ≡ told_rows c.self.inside.places (graph_with c.self.inside c.self.inside.store c.self.inside.slots).header =
    c.requires.rows ∙ ap (λ (T : GraphState). told_rows T.places T.graph.header) (sym c.self.view_is) in
    let small : nodes_of (numbered c.self.inside.places (copied (graph_with c.self.inside c.self.inside.store c.self.inside.slots) c.args.name c.args.place)) < 2 ^ 32 =
    subst (λ (T : GraphState). nodes_of (numbered T.places (copied T.graph c.args.name c.args.place)) < 2 ^ 32) (sym c.self.view_is) c.requires.nodes in
    let total = copied_total c.self.inside c.self.invariant c.args.name at.0 c.find-slot.result at.1 at.2 c.args.place in
    let counted : c.self.inside.nodes ≡ nodes_of (numbered c.self.inside.places (graph_with c.self.inside c.self.inside.store c.self.inside.slots)) = c.self.invariant.counted in
    omega (arith, more, rows, total, counted, small)

pub overflow_add-self-2 : goal.overflow_add-self-2
overflow_add-self-2 c =
    let at = stands c.args.name c.self.inside.slots.slots c.find-slot.result (has_place c.self.inside c.args.self.now c.self.view_is c.self.invariant c.args.name c.requires.live) c.find-slot.ensures.at in
    let more : c.nodes-more.result ≡ nodes (node_at c.self.inside.store c.find-slot.result.tree) =
    subst (λ o. IfSome o (λ (node : Node). c.nodes-more.result ≡ nodes node)) (c.in-Ok.ensures.tree ∙ (was_there c.self.inside c.self.invariant c.args.name at.0 c.find-slot.result at.1 at.2)) c.nodes-more.ensures in
    let rows : c.args.rows ≡ told_rows c.self.inside.places (graph_with c.self.inside c.self.inside.store c.self.inside.slots).header =
    c.requires.rows ∙ ap (λ (T : GraphState). told_rows T.places T.graph.header) (sym c.self.view_is) in
    let small : nodes_of (numbered c.self.inside.places (copied (graph_with c.self.inside c.self.inside.store c.self.inside.slots) c.args.name c.args.place)) < 2 ^ 32 =
    subst (λ (T : GraphState). nodes_of (numbered T.places (copied T.graph c.args.name c.args.place)) < 2 ^ 32) (sym c.self.view_is) c.requires.nodes in
    let total = copied_total c.self.inside c.self.invariant c.args.name at.0 c.find-slot.result at.1 at.2 c.args.place in
    let counted : c.self.inside.nodes ≡ nodes_of (numbered c.self.inside.places (graph_with c.self.inside c.self.inside.store c.self.inside.slots)) = c.self.invariant.counted in
    omega (arith, more, rows, total, counted, small)

pub invariant_of-self-2 : goal.invariant_of-self-2
invariant_of-self-2 c =
    let at = stands c.args.name c.self.inside.slots.slots c.find-slot.result (has_place c.self.inside c.args.self.now c.self.view_is c.self.invariant c.args.name c.requires.live) c.find-slot.ensures.at in
    let more : c.nodes-more.result ≡ nodes (node_at c.self.inside.store c.find-slot.result.tree) =
    subst (λ o. IfSome o (λ (node : Node). c.nodes-more.result ≡ nodes node)) (c.in-Ok.ensures.tree ∙ (was_there c.self.inside c.self.invariant c.args.name at.0 c.find-slot.result at.1 at.2)) c.nodes-more.ensures in
    let rows : c.args.rows ≡ told_rows c.self.inside.places (graph_with c.self.inside c.self.inside.store c.self.inside.slots).header =
    c.requires.rows ∙ ap (λ (T : GraphState). told_rows T.places T.graph.header) (sym c.self.view_is) in
    let few : c.self.inside.slots.next < 2 ^ 32 - 1 = subst (λ (T : GraphState). T.graph.next < 2 ^ 32 - 1) (sym c.self.view_is) c.requires.few in
    copied_kept c.self.inside c.self.invariant c.args.name at.0 c.find-slot.result at.1 at.2 c.args.place c.copy.new.self c.in-Ok.copy c.in-Ok.ensures.fresh c.in-Ok.ensures.tree c.in-Ok.ensures.others
    (record { name = c.self.inside.slots.next; kind = c.find-slot.result.kind; index_word = c.find-slot.result.index_word; tree = c.in-Ok.copy })
    refl c.insert.new.self c.insert.ensures.slots c.insert.ensures.next
    (c.self.inside.nodes + c.args.rows + c.nodes-more.result) (c.self.inside.room - 1) c.grow.new.self
    (omega (arith, more, rows)) c.in-Ok.ensures.building
    (omega (arith, c.requires.room, ap (λ (T : GraphState). T.room) c.self.view_is)) c.insert.ensures.room
    c.grow.ensures.length c.grow.ensures.marks_room c.grow.ensures.queue_room few

pub returns-clause-graph : goal.returns-clause-graph
returns-clause-graph c =
    let at = stands c.args.name c.self.inside.slots.slots c.find-slot.result (has_place c.self.inside c.args.self.now c.self.view_is c.self.invariant c.args.name c.requires.live) c.find-slot.ensures.at in
    copied_view c.self.inside c.self.invariant c.args.name at.0 c.find-slot.result at.1 at.2 c.args.place c.copy.new.self c.in-Ok.copy c.in-Ok.ensures.fresh c.in-Ok.ensures.tree c.in-Ok.ensures.others
    (record { name = c.self.inside.slots.next; kind = c.find-slot.result.kind; index_word = c.find-slot.result.index_word; tree = c.in-Ok.copy })
    refl c.insert.new.self c.insert.ensures.slots c.insert.ensures.next
    ∙ ap (λ (T : GraphState). copied T.graph c.args.name c.args.place) c.self.view_is

pub returns-clause-cells : goal.returns-clause-cells
returns-clause-cells c =
    let at = stands c.args.name c.self.inside.slots.slots c.find-slot.result (has_place c.self.inside c.args.self.now c.self.view_is c.self.invariant c.args.name c.requires.live) c.find-slot.ensures.at in
    let cells : copy_cells c.args.self.now.graph c.args.name ≡ most_cells (node_at c.self.inside.store c.find-slot.result.tree) =
    ap (λ o. option_map_or (λ (b : Block). most_cells b.node) o 0) (block_there c.self.inside c.args.self.now c.self.view_is c.self.invariant c.args.name c.requires.live c.find-slot.result c.find-slot.ensures.at) in
    let spare : c.self.inside.store.spare_cells ≤ c.copy.new.self.spare_cells + most_cells (node_at c.self.inside.store c.find-slot.result.tree) =
    subst (λ o. IfSome o (λ (node : Node). c.self.inside.store.spare_cells ≤ c.copy.new.self.spare_cells + most_cells node)) (was_there c.self.inside c.self.invariant c.args.name at.0 c.find-slot.result at.1 at.2) c.in-Ok.ensures.spare in
    omega (arith, cells, spare, ap (λ (T : GraphState). T.trees.spare_cells) c.self.view_is)
