use Rattle.nif_file.specs.Files.{sized_string}
use Rattle.nif_file.proofs.PartsPuts.{PutsFirst}
use Rattle.nif_file.proofs.encode_header.put_types.Given as goal

abbrev pub invariant-loop-k : goal.invariant-loop-k
invariant-loop-k g l = PutsFirst g.K.Sink.grew g.K.Sink.write_faults l.fn.out (sized_string l.order) l.graph.graph.types l.k l.out
