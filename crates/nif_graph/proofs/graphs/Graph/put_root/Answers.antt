use Rattle.std.proofs.Common.{◌<◌, length, subst, sym}
use Rattle.std.specs.Option.{IsSomeAnd}
use Rattle.nif_base.specs.Node.{refs}
use Rattle.nif_graph.proofs.Reading.{within, footer_is}
use Rattle.nif_graph.proofs.Pointing.{target_small, root_target_view, root_target_kept}
use Rattle.nif_graph.proofs.graphs.Graph.put_root.Goals as goal

pub set_ref-requires-clause-place : goal.set_ref-requires-clause-place
set_ref-requires-clause-place c =
    subst (λ o. IsSomeAnd o (λ node. c.args.k < length (refs node))) (sym (footer_is c.self.inside c.args.self.now c.self.view_is c.self.invariant))
    (within (refs c.args.self.now.graph.footer) c.args.k c.requires.reference)

pub set_ref-requires-clause-target : goal.set_ref-requires-clause-target
set_ref-requires-clause-target c = target_small c.self.inside c.args.self.now c.self.view_is c.self.invariant c.args.to c.requires.live

pub invariant_of-self : goal.invariant_of-self
invariant_of-self c =
    root_target_kept c.self.inside c.args.self.now c.self.view_is c.self.invariant c.args.to c.requires.live
    c.args.k c.requires.reference c.set_ref.new.self c.set_ref.ensures.tree c.set_ref.ensures.others c.set_ref.ensures.building

pub returns-clause-graph : goal.returns-clause-graph
returns-clause-graph c =
    root_target_view c.self.inside c.args.self.now c.self.view_is c.self.invariant c.args.to c.requires.live
    c.args.k c.requires.reference c.set_ref.new.self c.set_ref.ensures.tree c.set_ref.ensures.others
