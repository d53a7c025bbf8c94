use Rattle.std.proofs.Common.{subst}
use Rattle.nif_value.specs.Trees.{IsLive}
use Rattle.nif_graph.specs.State.{GraphState}
use Rattle.nif_graph.proofs.Reading.{head_live}
use Rattle.nif_graph.proofs.graphs.Graph.header_tree.Goals as goal

pub returns-clause-live : goal.returns-clause-live
returns-clause-live c =
    subst (λ (T : GraphState). IsLive T.trees c.self.inside.header.run.key) c.self.view_is
    (head_live c.self.inside c.args.self.now c.self.view_is c.self.invariant)
