use Rattle.std.proofs.Common.{◌≡◌, Some}
use Rattle.std.specs.Prelude.{take, slice_get}
use Rattle.nif_base.specs.Node.{refs}
use Rattle.nif_base.specs.Graph.{Named}
use Rattle.nif_stream.specs.Putting.{Puts}
use Rattle.nif_print.specs.References.{by_number, reference_line}
use Rattle.nif_print.proofs.references.put_block.Given as goal

abbrev pub invariant-loop-k : goal.invariant-loop-k
invariant-loop-k g l =
    (b : Named) → slice_get l.graph.graph.blocks l.place ≡ Some b
    → Puts g.K.Sink.grew g.K.Sink.write_faults l.initial.out (by_number (reference_line l.schema l.graph.graph (Some l.place)) 0 (take l.k (refs b.block.node))) l.out
