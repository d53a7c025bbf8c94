use Rattle.std.proofs.Common.{◌∙◌, ap}
use Rattle.nif_graph.specs.State.{GraphState, origin_of}
use Rattle.nif_graph.proofs.Keeping.{restored, same_graph}
use Rattle.nif_graph.proofs.graphs.Graph.reserve.Goals as goal

pub invariant_of-self : goal.invariant_of-self
invariant_of-self c =
    restored c.self.inside.store c.self.inside.header c.self.inside.footer c.self.inside.places (origin_of c.self.inside.context c.self.inside.strings) c.self.inside.indexed c.self.inside.types.items c.self.inside.slots c.self.inside.nodes c.self.inside.marks c.self.inside.room c.self.invariant
    c.reserve.new.self c.reserve.ensures.trees c.reserve.ensures.building

pub invariant_of-self-2 : goal.invariant_of-self-2
invariant_of-self-2 c =
    restored c.self.inside.store c.self.inside.header c.self.inside.footer c.self.inside.places (origin_of c.self.inside.context c.self.inside.strings) c.self.inside.indexed c.self.inside.types.items c.self.inside.slots c.self.inside.nodes c.self.inside.marks c.self.inside.room c.self.invariant
    c.reserve.new.self c.reserve.ensures.trees c.reserve.ensures.building

pub returns-clause-graph : goal.returns-clause-graph
returns-clause-graph c =
    c.reserve_name.ensures.graph
    ∙ same_graph c.self.inside.store c.self.inside.header c.self.inside.footer c.self.inside.places (origin_of c.self.inside.context c.self.inside.strings) c.self.inside.indexed c.self.inside.types.items c.self.inside.slots c.self.inside.nodes c.self.inside.marks c.self.inside.room c.self.invariant
    c.reserve.new.self c.reserve.ensures.trees
    ∙ ap (λ (s : GraphState). s.graph) c.self.view_is ∙ c.in-Ok.ensures.graph
