use Rattle.std.proofs.Common.{◌≡◌, ◌-◌, ◌^◌, ◌<◌, ◌≤◌, length, drop}
use Rattle.nif_layout.specs.LeafFault.{low_value}
use Rattle.nif_decode.proofs.takes.low_value.Given as goal

abbrev pub invariant-loop-i : goal.invariant-loop-i
invariant-loop-i l = record {
  there : l.i ≤ length l.bytes;
  value : l.bits ≡ low_value (drop l.i l.bytes);
  small : l.bits < 256 ^ (length l.bytes - l.i);
}

abbrev pub decreases-loop-i : goal.decreases-loop-i
decreases-loop-i l = l.i
