use Rattle.nif_graph.proofs.Reading.{named_lives, block_named}
use Rattle.nif_graph.proofs.graphs.Graph.name_at.Goals as goal

pub returns-clause-live : goal.returns-clause-live
returns-clause-live c = named_lives c.self.inside c.args.self.now c.self.view_is c.self.invariant c.args.place c.at.result c.at.ensures

pub returns-clause-block : goal.returns-clause-block
returns-clause-block c = block_named c.self.inside c.args.self.now c.self.view_is c.self.invariant c.args.place c.at.result c.at.ensures
