use Rattle.std.proofs.Common.{◌∙◌, arith}
use Rattle.nif_graph.proofs.Keeping.{kept, kept_is}
use Rattle.nif_graph.proofs.graphs.Graph.from_parts.Goals as goal

pub invariant_of-result : goal.invariant_of-result
invariant_of-result c =
    kept c.args.parts c.requires c.in-Ok.slots c.in-Ok-new.marks c.in-Ok.ensures.slots c.in-Ok.ensures.next
    (c.in-Ok-new.ensures.length ∙ c.next.ensures) (omega (arith, c.in-Ok-new.ensures.room, c.next.ensures))
    (omega (arith, c.in-Ok-new.ensures.length, c.next.ensures, c.in-Ok-new.marks.marks.ok.0))
    (omega (arith, c.args.parts.types.ok.0)) (omega (arith, c.next.ensures, c.next.type_inv))

pub returns-clause-graph : goal.returns-clause-graph
returns-clause-graph c = kept_is c.args.parts c.requires c.in-Ok.slots c.in-Ok.ensures.slots c.in-Ok.ensures.next
