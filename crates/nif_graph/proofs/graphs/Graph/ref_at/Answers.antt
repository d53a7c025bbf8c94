use Rattle.std.proofs.Common.{Some}
use Rattle.nif_value.specs.Trees.{reference_of}
use Rattle.nif_graph.proofs.Reading.{has_place, may_ask, told, asked_lives, target_lives}
use Rattle.nif_graph.proofs.graphs.Graph.ref_at.Goals as goal

pub find-requires : goal.find-requires
find-requires c = has_place c.self.inside c.args.self.now c.self.view_is c.self.invariant c.args.name (asked_lives c.self.inside c.args.self.now c.self.view_is c.self.invariant c.args.name c.args.k c.requires)

pub ref_at-requires : goal.ref_at-requires
ref_at-requires c =
    may_ask c.self.inside c.args.self.now c.self.view_is c.self.invariant c.args.name (asked_lives c.self.inside c.args.self.now c.self.view_is c.self.invariant c.args.name c.args.k c.requires)
    c.find.result c.find.ensures.at c.args.k c.requires

pub returns-clause-reference : goal.returns-clause-reference
returns-clause-reference c =
    told c.self.inside c.args.self.now c.self.view_is c.self.invariant c.args.name (asked_lives c.self.inside c.args.self.now c.self.view_is c.self.invariant c.args.name c.args.k c.requires)
    c.find.result c.find.ensures.at c.args.k (reference_of c.ref_at.result) c.ref_at.ensures

pub returns-clause-target : goal.returns-clause-target
returns-clause-target c =
    target_lives c.self.inside c.args.self.now c.self.view_is c.self.invariant (Some c.args.name) c.args.k (reference_of c.ref_at.result)
    (told c.self.inside c.args.self.now c.self.view_is c.self.invariant c.args.name (asked_lives c.self.inside c.args.self.now c.self.view_is c.self.invariant c.args.name c.args.k c.requires)
    c.find.result c.find.ensures.at c.args.k (reference_of c.ref_at.result) c.ref_at.ensures)
