use Rattle.nif_graph.proofs.Reading.{has_place, tree_there}
use Rattle.nif_graph.proofs.graphs.Graph.tree_of.Goals as goal

pub find-requires : goal.find-requires
find-requires c = has_place c.self.inside c.args.self.now c.self.view_is c.self.invariant c.args.name c.requires

pub returns : goal.returns
returns c = tree_there c.self.inside c.args.self.now c.self.view_is c.self.invariant c.args.name c.requires c.find.result c.find.ensures.at
