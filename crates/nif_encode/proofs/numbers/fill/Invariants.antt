use Rattle.std.proofs.Common.{◌≡◌, ◌/◌, ◌^◌, length, take}
use Rattle.nif_base.specs.Node.{low_first}
use Rattle.nif_encode.proofs.numbers.fill.Given as goal

abbrev pub invariant-loop-i : goal.invariant-loop-i
invariant-loop-i l = record {
  kept : length l.bytes ≡ length l.fn.bytes;
  left : l.rest ≡ l.number / 256 ^ l.i;
  filled : take l.i l.bytes ≡ low_first l.i l.number;
}
