use Rattle.std.proofs.Common.{◌≡◌, ◌+◌, length}
use Rattle.nif_stream.specs.Taking.{Takes}
use Rattle.nif_file_reader.proofs.names.take_bytes.Given as goal

abbrev pub invariant-loop-left : goal.invariant-loop-left
invariant-loop-left g l = record {
  long : length l.bytes.items + l.left ≡ l.count;
  takes : Takes g.S.Source.left g.S.Source.still g.S.Source.read_faults l.fn.taker l.bytes.items l.taker;
}

abbrev pub decreases-loop-left : goal.decreases-loop-left
decreases-loop-left g l = l.left
