use Rattle.std.proofs.Common.{◌≡◌, ◌<◌, length, subst, Some, None, IfSome, sym}
use Rattle.std.specs.Prelude.{slice_get}
use Rattle.std.specs.Option.{IsSomeAnd}
use Rattle.nif_base.specs.Node.{refs}
use Rattle.nif_value.specs.Trees.{reference_of}
use Rattle.nif_graph.proofs.Reading.{within, footer_is, target_lives}
use Rattle.nif_graph.proofs.graphs.Graph.root_at.Goals as goal

pub ref_at-requires : goal.ref_at-requires
ref_at-requires c =
    subst (λ o. IsSomeAnd o (λ node. c.args.k < length (refs node))) (sym (footer_is c.self.inside c.args.self.now c.self.view_is c.self.invariant))
    (within (refs c.args.self.now.graph.footer) c.args.k c.requires)

pub returns-clause-reference : goal.returns-clause-reference
returns-clause-reference c =
    subst (λ o. IfSome o (λ node. slice_get (refs node) c.args.k ≡ Some (reference_of c.ref_at.result))) (footer_is c.self.inside c.args.self.now c.self.view_is c.self.invariant)
    c.ref_at.ensures

pub returns-clause-target : goal.returns-clause-target
returns-clause-target c =
    target_lives c.self.inside c.args.self.now c.self.view_is c.self.invariant None c.args.k (reference_of c.ref_at.result)
    (subst (λ o. IfSome o (λ node. slice_get (refs node) c.args.k ≡ Some (reference_of c.ref_at.result))) (footer_is c.self.inside c.args.self.now c.self.view_is c.self.invariant)
    c.ref_at.ensures)
