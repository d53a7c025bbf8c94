use Rattle.std.proofs.Common.{sym, ◌∙◌, ap}
use Rattle.nif_graph.specs.State.{GraphState, node_at}
use Rattle.nif_graph.specs.Written.{untold, is_indexed}
use Rattle.nif_graph.specs.WrittenLaws.{indexed_told}
use Rattle.nif_graph.proofs.graphs.Graph.is_indexed.Goals as goal

pub returns : goal.returns
returns c =
    c.self.invariant.tells_index
    ∙ sym (indexed_told c.self.inside.places untold (node_at c.self.inside.store c.self.inside.header))
    ∙ ap (λ (T : GraphState). is_indexed T.places T.graph.header) c.self.view_is
