use Rattle.std.proofs.Common.{ap}
use Rattle.std.specs.Option.{option_map}
use Rattle.nif_base.specs.File.{Block}
use Rattle.nif_graph.proofs.Reading.{has_place, block_there}
use Rattle.nif_graph.proofs.graphs.Graph.type_of.Goals as goal

pub find-requires : goal.find-requires
find-requires c = has_place c.self.inside c.args.self.now c.self.view_is c.self.invariant c.args.name c.requires

pub returns : goal.returns
returns c = ap (λ o. option_map (λ (b : Block). b.kind) o) (block_there c.self.inside c.args.self.now c.self.view_is c.self.invariant c.args.name c.requires c.find.result c.find.ensures.at)
