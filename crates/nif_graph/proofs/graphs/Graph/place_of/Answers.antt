use Rattle.std.proofs.Common.{◌∙◌}
use Rattle.nif_graph.proofs.Reading.{place_is}
use Rattle.nif_graph.proofs.graphs.Graph.place_of.Goals as goal

pub returns : goal.returns
returns c = c.place_of.ensures ∙ place_is c.self.inside c.args.self.now c.self.view_is c.self.invariant c.args.name
