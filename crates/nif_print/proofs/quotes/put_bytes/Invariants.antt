use Rattle.std.proofs.Common.{take}
use Rattle.nif_stream.specs.Putting.{Puts}
use Rattle.nif_print.specs.Quoted.{quoted_bytes}
use Rattle.nif_print.proofs.quotes.put_bytes.Given as goal

abbrev pub invariant-loop-byte : goal.invariant-loop-byte
invariant-loop-byte g l = Puts g.K.Sink.grew g.K.Sink.write_faults l.initial.out (quoted_bytes (take l.byte-index l.bytes)) l.out
