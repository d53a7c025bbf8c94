use Rattle.std.proofs.Common.{None}
use Rattle.std.specs.Prelude.{take}
use Rattle.nif_base.specs.Node.{refs}
use Rattle.nif_stream.specs.Putting.{Puts}
use Rattle.nif_print.specs.References.{by_number, reference_line}
use Rattle.nif_print.proofs.references.put_roots.Given as goal

abbrev pub invariant-loop-k : goal.invariant-loop-k
invariant-loop-k g l =
    Puts g.K.Sink.grew g.K.Sink.write_faults l.initial.out (by_number (reference_line l.schema l.graph.graph None) 0 (take l.k (refs l.graph.graph.footer))) l.out
