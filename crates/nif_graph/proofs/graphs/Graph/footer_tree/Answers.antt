use Rattle.nif_graph.proofs.Reading.{footer_there}
use Rattle.nif_graph.proofs.graphs.Graph.footer_tree.Goals as goal

pub returns : goal.returns
returns c = footer_there c.self.inside c.args.self.now c.self.view_is c.self.invariant
