use Rattle.std.specs.Prelude.{take}
use Rattle.nif_stream.specs.Putting.{Puts}
use Rattle.nif_print.specs.References.{by_number, block_lines}
use Rattle.nif_print.proofs.references.put_blocks.Given as goal

abbrev pub invariant-loop-place : goal.invariant-loop-place
invariant-loop-place g l =
    Puts g.K.Sink.grew g.K.Sink.write_faults l.initial.out (by_number (block_lines l.schema l.graph.graph) 0 (take l.place l.graph.graph.blocks)) l.out
