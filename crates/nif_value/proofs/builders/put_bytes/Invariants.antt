use Rattle.std.proofs.Common.{◌≡◌, ◌<◌, ◌^◌, take}
use Rattle.nif_cells.specs.Encoding.{packed_from, words}
use Rattle.nif_value.specs.Packing.{started}
use Rattle.nif_value.specs.Built.{Puts}
use Rattle.nif_value.proofs.builders.put_bytes.Given as goal

abbrev pub invariant-loop-byte : goal.invariant-loop-byte
invariant-loop-byte l = record {
  puts : Puts l.fn.region l.region (words (packed_from (started l.fn.packing.left l.fn.packing.bits) (take l.byte-index l.bytes)).words);
  left_is : l.packing.left ≡ (packed_from (started l.fn.packing.left l.fn.packing.bits) (take l.byte-index l.bytes)).left;
  bits_are : l.packing.bits ≡ (packed_from (started l.fn.packing.left l.fn.packing.bits) (take l.byte-index l.bytes)).bits;
  left : l.packing.left < 8;
  bits : l.packing.bits < 256 ^ l.packing.left;
}
