use Rattle.std.proofs.Common.{sym, ◌∙◌, ap, subst}
use Rattle.nif_graph.specs.Graph.{IsGraph}
use Rattle.nif_graph.specs.State.{GraphState}
use Rattle.nif_graph.specs.Changes.{replaced_by}
use Rattle.nif_graph.proofs.Replaced.{replaced_same}
use Rattle.nif_graph.proofs.graphs.Graph.put_over.Goals as goal

pub returns-then-name-other-clause-graph : goal.returns-then-name-other-clause-graph
returns-then-name-other-clause-graph c =
    ap (λ (T : GraphState). T.graph) c.self.view_is
    ∙ sym (replaced_same c.args.self.now.graph c.args.name (subst (λ (T : GraphState). IsGraph T.graph) c.self.view_is c.self.invariant.graph))
    ∙ ap (λ n. replaced_by c.args.self.now.graph c.args.name n) c.if-name-other.true
