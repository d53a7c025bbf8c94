use Rattle.nif_graph.proofs.Reading.{has_place, tree_live, counted}
use Rattle.nif_graph.proofs.graphs.Graph.ref_count.Goals as goal

pub find-requires : goal.find-requires
find-requires c = has_place c.self.inside c.args.self.now c.self.view_is c.self.invariant c.args.name c.requires

pub ref_count-requires : goal.ref_count-requires
ref_count-requires c = tree_live c.self.inside c.args.self.now c.self.view_is c.self.invariant c.args.name c.requires c.find.result c.find.ensures.at

pub returns : goal.returns
returns c = counted c.self.inside c.args.self.now c.self.view_is c.self.invariant c.args.name c.requires c.find.result c.find.ensures.at c.ref_count.result c.ref_count.ensures
