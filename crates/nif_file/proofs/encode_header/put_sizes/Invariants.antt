use Rattle.nif_base.specs.Graph.{Named}
use Rattle.nif_base.specs.Node.{number, is_little, size}
use Rattle.nif_file.proofs.PartsPuts.{PutsFirst}
use Rattle.nif_file.proofs.encode_header.put_sizes.Given as goal

abbrev pub invariant-loop-place : goal.invariant-loop-place
invariant-loop-place g l = PutsFirst g.K.Sink.grew g.K.Sink.write_faults l.fn.out
    (λ (b : Named). number (is_little l.fn.order) 4 (size b.block.node)) l.graph.graph.blocks l.place l.out
