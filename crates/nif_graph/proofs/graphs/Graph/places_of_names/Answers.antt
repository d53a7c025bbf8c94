use Rattle.std.proofs.Common.{◌∙◌}
use Rattle.nif_graph.proofs.Reading.{place_is}
use Rattle.nif_graph.proofs.graphs.Graph.places_of_names.Goals as goal

pub returns : goal.returns
returns c name = c.places.ensures name ∙ place_is c.self.inside c.args.self.now c.self.view_is c.self.invariant name
