use Rattle.std.proofs.Common.{suc, ◌≡◌, ◌+◌, ◌-◌, IfSome, sym, ◌∙◌, ap, subst, arith}
use Rattle.nif_base.specs.Node.{Node, nodes}
use Rattle.nif_base.specs.File.{nodes_of}
use Rattle.nif_graph.specs.Written.{numbered, told_rows}
use Rattle.nif_graph.specs.State.{GraphState, node_at}
use Rattle.nif_graph.specs.Changes.{taken_out}
use Rattle.nif_graph.proofs.Reading.{has_place}
use Rattle.nif_graph.proofs.Pointing.{place_within}
use Rattle.nif_graph.proofs.Changed.{graph_with, was_there, slot_key}
use Rattle.nif_graph.proofs.Taken.{left_total, slots_left, footer_left, view_taken, kept_taken}
use Rattle.nif_graph.proofs.graphs.Graph.take_out.Goals as goal

pub place_there-place-requires : goal.place_there-place-requires
place_there-place-requires c = has_place c.self.inside c.args.self.now c.self.view_is c.self.invariant c.args.name c.requires.live

pub take-requires : goal.take-requires
take-requires c = place_within c.self.inside c.args.self.now c.self.view_is c.self.invariant c.args.name c.requires.live c.place_there-place.result c.place_there-place.ensures

pub nodes-gone-requires : goal.nodes-gone-requires
nodes-gone-requires c =
    c.self.invariant.live (suc (suc c.place_there-place.result)) c.take.result.tree.run.key (slot_key c.self.inside c.self.invariant c.place_there-place.result c.take.result c.take.ensures.slot)

pub drop_tree-requires : goal.drop_tree-requires
drop_tree-requires c =
    c.self.invariant.live (suc (suc c.place_there-place.result)) c.take.result.tree.run.key (slot_key c.self.inside c.self.invariant c.place_there-place.result c.take.result c.take.ensures.slot)

pub empty_all-requires : goal.empty_all-requires
empty_all-requires c =
    slots_left c.self.inside c.self.invariant c.args.name c.place_there-place.result c.take.result c.place_there-place.ensures c.take.ensures.slot c.take.new.self c.take.ensures.slots c.take.ensures.next c.drop_tree.new.self c.drop_tree.ensures.others

pub empty_tree-requires : goal.empty_tree-requires
empty_tree-requires c =
    footer_left c.self.inside c.self.invariant c.args.name c.place_there-place.result c.take.result c.place_there-place.ensures c.take.ensures.slot c.take.new.self c.take.ensures.slots c.take.ensures.next c.drop_tree.new.self c.drop_tree.ensures.others c.empty_all.new.store c.empty_all.ensures.trees c.empty_all.ensures.others

pub overflow_sub-self : goal.overflow_sub-self
overflow_sub-self c =
    let gone : c.nodes-gone.result ≡ nodes (node_at c.self.inside.store c.take.result.tree) =
    subst (λ o. IfSome o (λ (node : Node). c.nodes-gone.result ≡ nodes node))
    (was_there c.self.inside c.self.invariant c.args.name c.place_there-place.result c.take.result c.place_there-place.ensures c.take.ensures.slot) c.nodes-gone.ensures in
    let rows : c.args.rows ≡ told_rows c.self.inside.places (graph_with c.self.inside c.self.inside.store c.self.inside.slots).header =
    c.requires.rows ∙ ap (λ (T : GraphState). told_rows T.places T.graph.header) (sym c.self.view_is) in
    let total : c.self.inside.nodes ≡ (nodes (node_at c.self.inside.store c.take.result.tree) + told_rows c.self.inside.places (graph_with c.self.inside c.self.inside.store c.self.inside.slots).header)
    + nodes_of (numbered c.self.inside.places (taken_out (graph_with c.self.inside c.self.inside.store c.self.inside.slots) c.args.name)) =
    c.self.invariant.counted ∙ left_total c.self.inside c.self.invariant c.args.name c.place_there-place.result c.take.result c.place_there-place.ensures c.take.ensures.slot in
    omega (arith, rows, total)

pub overflow_sub-self-2 : goal.overflow_sub-self-2
overflow_sub-self-2 c =
    let gone : c.nodes-gone.result ≡ nodes (node_at c.self.inside.store c.take.result.tree) =
    subst (λ o. IfSome o (λ (node : Node). c.nodes-gone.result ≡ nodes node))
    (was_there c.self.inside c.self.invariant c.args.name c.place_there-place.result c.take.result c.place_there-place.ensures c.take.ensures.slot) c.nodes-gone.ensures in
    let rows : c.args.rows ≡ told_rows c.self.inside.places (graph_with c.self.inside c.self.inside.store c.self.inside.slots).header =
    c.requires.rows ∙ ap (λ (T : GraphState). told_rows T.places T.graph.header) (sym c.self.view_is) in
    let total : c.self.inside.nodes ≡ (nodes (node_at c.self.inside.store c.take.result.tree) + told_rows c.self.inside.places (graph_with c.self.inside c.self.inside.store c.self.inside.slots).header)
    + nodes_of (numbered c.self.inside.places (taken_out (graph_with c.self.inside c.self.inside.store c.self.inside.slots) c.args.name)) =
    c.self.invariant.counted ∙ left_total c.self.inside c.self.invariant c.args.name c.place_there-place.result c.take.result c.place_there-place.ensures c.take.ensures.slot in
    omega (arith, gone, rows, total)

pub invariant_of-self : goal.invariant_of-self
invariant_of-self c =
    let gone : c.nodes-gone.result ≡ nodes (node_at c.self.inside.store c.take.result.tree) =
    subst (λ o. IfSome o (λ (node : Node). c.nodes-gone.result ≡ nodes node))
    (was_there c.self.inside c.self.invariant c.args.name c.place_there-place.result c.take.result c.place_there-place.ensures c.take.ensures.slot) c.nodes-gone.ensures in
    let rows : c.args.rows ≡ told_rows c.self.inside.places (graph_with c.self.inside c.self.inside.store c.self.inside.slots).header =
    c.requires.rows ∙ ap (λ (T : GraphState). told_rows T.places T.graph.header) (sym c.self.view_is) in
    let total : c.self.inside.nodes ≡ (nodes (node_at c.self.inside.store c.take.result.tree) + told_rows c.self.inside.places (graph_with c.self.inside c.self.inside.store c.self.inside.slots).header)
    + nodes_of (numbered c.self.inside.places (taken_out (graph_with c.self.inside c.self.inside.store c.self.inside.slots) c.args.name)) =
    c.self.invariant.counted ∙ left_total c.self.inside c.self.invariant c.args.name c.place_there-place.result c.take.result c.place_there-place.ensures c.take.ensures.slot in
    kept_taken c.self.inside c.self.invariant c.args.name c.place_there-place.result c.take.result c.place_there-place.ensures c.take.ensures.slot c.take.new.self c.take.ensures.slots c.take.ensures.next c.drop_tree.new.self c.drop_tree.ensures.others c.empty_all.new.store c.empty_all.ensures.trees c.empty_all.ensures.others c.empty_tree.new.store c.empty_tree.ensures.tree c.empty_tree.ensures.others
    (c.self.inside.nodes - c.args.rows - c.nodes-gone.result) (omega (arith, gone, rows, total))
    (c.empty_tree.ensures.building ∙ c.empty_all.ensures.building ∙ c.drop_tree.ensures.building) c.take.ensures.room

pub returns-clause-graph : goal.returns-clause-graph
returns-clause-graph c =
    view_taken c.self.inside c.self.invariant c.args.name c.place_there-place.result c.take.result c.place_there-place.ensures c.take.ensures.slot c.take.new.self c.take.ensures.slots c.take.ensures.next c.drop_tree.new.self c.drop_tree.ensures.others c.empty_all.new.store c.empty_all.ensures.trees c.empty_all.ensures.others c.empty_tree.new.store c.empty_tree.ensures.tree c.empty_tree.ensures.others
    ∙ ap (λ (T : GraphState). taken_out T.graph c.args.name) c.self.view_is
