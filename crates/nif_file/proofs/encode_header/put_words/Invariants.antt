use Rattle.std.specs.Prelude.{unwrap_or}
use Rattle.nif_base.specs.Graph.{Named}
use Rattle.nif_base.specs.Node.{number, is_little}
use Rattle.nif_file.proofs.PartsPuts.{PutsFirst}
use Rattle.nif_file.proofs.encode_header.put_words.Given as goal

abbrev pub invariant-loop-place : goal.invariant-loop-place
invariant-loop-place g l = PutsFirst g.K.Sink.grew g.K.Sink.write_faults l.fn.out
    (λ (b : Named). number (is_little l.fn.order) 2 (unwrap_or b.block.index 0)) l.graph.graph.blocks l.place l.out
