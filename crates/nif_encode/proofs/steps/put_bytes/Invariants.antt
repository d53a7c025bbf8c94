use Rattle.std.proofs.Common.{◌≡◌, length}
use Rattle.nif_encode.specs.Texts.{given}
use Rattle.nif_encode.proofs.PutLaws.{Copies}
use Rattle.nif_encode.proofs.steps.put_bytes.Given as goal

abbrev pub invariant-loop-piece : goal.invariant-loop-piece
invariant-loop-piece g l = record {
  ahead : l.walk.ahead ≡ l.fn.walk.ahead;
  size : length l.piece ≡ 256;
  copies : Copies g.K.Sink.grew g.K.Sink.write_faults l.fn.out l.fn.walk.bytes l.walk.bytes l.out;
}

abbrev pub decreases-loop-piece : goal.decreases-loop-piece
decreases-loop-piece g l = length (given l.walk.bytes)
