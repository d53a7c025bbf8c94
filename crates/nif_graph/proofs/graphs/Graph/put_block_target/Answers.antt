use Rattle.nif_graph.proofs.Reading.{has_place, may_ask, asked_lives}
use Rattle.nif_graph.proofs.Pointing.{target_small, block_target_view, block_target_kept}
use Rattle.nif_graph.proofs.graphs.Graph.put_block_target.Goals as goal

pub find-requires : goal.find-requires
find-requires c = has_place c.self.inside c.args.self.now c.self.view_is c.self.invariant c.args.name (asked_lives c.self.inside c.args.self.now c.self.view_is c.self.invariant c.args.name c.args.k c.requires.reference)

pub set_ref-requires-clause-place : goal.set_ref-requires-clause-place
set_ref-requires-clause-place c =
    may_ask c.self.inside c.args.self.now c.self.view_is c.self.invariant c.args.name (asked_lives c.self.inside c.args.self.now c.self.view_is c.self.invariant c.args.name c.args.k c.requires.reference)
    c.find.result c.find.ensures.at c.args.k c.requires.reference

pub set_ref-requires-clause-target : goal.set_ref-requires-clause-target
set_ref-requires-clause-target c = target_small c.self.inside c.args.self.now c.self.view_is c.self.invariant c.args.to c.requires.live

pub invariant_of-self : goal.invariant_of-self
invariant_of-self c =
    block_target_kept c.self.inside c.args.self.now c.self.view_is c.self.invariant c.args.to c.requires.live
    c.args.name c.args.k c.requires.reference c.find.result c.find.ensures.at c.set_ref.new.self c.set_ref.ensures.tree c.set_ref.ensures.others
    c.set_ref.ensures.building

pub returns-clause-graph : goal.returns-clause-graph
returns-clause-graph c =
    block_target_view c.self.inside c.args.self.now c.self.view_is c.self.invariant c.args.to c.requires.live
    c.args.name c.args.k c.requires.reference c.find.result c.find.ensures.at c.set_ref.new.self c.set_ref.ensures.tree c.set_ref.ensures.others
