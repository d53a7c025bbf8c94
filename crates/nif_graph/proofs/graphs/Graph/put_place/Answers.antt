use Rattle.std.proofs.Common.{arith}
use Rattle.nif_graph.proofs.Reading.{has_place, block_count}
use Rattle.nif_graph.proofs.Pointing.{place_within, place_view, place_kept}
use Rattle.nif_graph.proofs.graphs.Graph.put_place.Goals as goal

pub place_there-from-requires : goal.place_there-from-requires
place_there-from-requires c = has_place c.self.inside c.args.self.now c.self.view_is c.self.invariant c.args.name c.requires.live

pub put-requires-clause-from : goal.put-requires-clause-from
put-requires-clause-from c = place_within c.self.inside c.args.self.now c.self.view_is c.self.invariant c.args.name c.requires.live c.place_there-from.result c.place_there-from.ensures

pub put-requires-clause-to : goal.put-requires-clause-to
put-requires-clause-to c = omega (arith, c.requires.place, block_count c.self.inside c.args.self.now c.self.view_is c.self.invariant)

pub invariant_of-self : goal.invariant_of-self
invariant_of-self c =
    place_kept c.self.inside c.args.self.now c.self.view_is c.self.invariant c.args.name c.requires.live c.place_there-from.result c.place_there-from.ensures
    c.put.result c.put.ensures.slot c.args.place c.put.new.self c.put.ensures.slots c.put.ensures.next c.put.ensures.room

pub returns-clause-graph : goal.returns-clause-graph
returns-clause-graph c =
    place_view c.self.inside c.args.self.now c.self.view_is c.self.invariant c.args.name c.requires.live c.place_there-from.result c.place_there-from.ensures
    c.put.result c.put.ensures.slot c.args.place c.put.new.self c.put.ensures.slots c.put.ensures.next
