use Rattle.std.proofs.Common.{◌≡◌, length}
use Rattle.nif_encode.specs.Texts.{given}
use Rattle.nif_lists.proofs.PassLaws.{Copies}
use Rattle.nif_lists.proofs.passing.read_bytes.Given as goal

abbrev pub invariant-loop-piece : goal.invariant-loop-piece
invariant-loop-piece l = record {
  ahead : l.walk.ahead ≡ l.fn.walk.ahead;
  size : length l.piece ≡ 256;
  copies : Copies l.fn.walk.bytes l.walk.bytes l.bytes.items;
}

abbrev pub decreases-loop-piece : goal.decreases-loop-piece
decreases-loop-piece l = length (given l.walk.bytes)
