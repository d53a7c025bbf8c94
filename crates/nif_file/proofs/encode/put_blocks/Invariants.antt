use Rattle.nif_file.specs.PartsText.{block_part}
use Rattle.nif_file.proofs.PartsPuts.{PutsFirst}
use Rattle.nif_file.proofs.encode.put_blocks.Given as goal

abbrev pub invariant-loop-place : goal.invariant-loop-place
invariant-loop-place g l = PutsFirst g.K.Sink.grew g.K.Sink.write_faults l.fn.out (block_part l.schema l.graph.graph) l.graph.graph.blocks l.place l.out
