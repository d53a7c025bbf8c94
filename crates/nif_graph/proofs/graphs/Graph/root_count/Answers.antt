use Rattle.std.proofs.Common.{◌≡◌, length, subst, IfSome}
use Rattle.nif_base.specs.Node.{refs}
use Rattle.nif_graph.proofs.Reading.{foot_live, footer_is}
use Rattle.nif_graph.proofs.graphs.Graph.root_count.Goals as goal

pub ref_count-requires : goal.ref_count-requires
ref_count-requires c = foot_live c.self.inside c.args.self.now c.self.view_is c.self.invariant

pub returns : goal.returns
returns c = subst (λ o. IfSome o (λ node. c.ref_count.result ≡ length (refs node))) (footer_is c.self.inside c.args.self.now c.self.view_is c.self.invariant) c.ref_count.ensures
