use Rattle.std.proofs.Common.{◌+◌, ◌-◌, ◌^◌, ◌≤◌, length, take}
use Rattle.nif_stream.specs.Taking.{place_of, Reads}
use Rattle.nif_stream.proofs.takers.Taker.take.Given as goal

abbrev pub invariant-loop-filled : goal.invariant-loop-filled
invariant-loop-filled g l = record {
  within : l.filled ≤ length l.buf;
  room : place_of l.self + l.filled ≤ 2 ^ 26;
  reads : Reads g.S.Source.left g.S.Source.still g.S.Source.read_faults l.fn.self (take l.filled l.buf) l.self;
}

abbrev pub decreases-loop-filled : goal.decreases-loop-filled
decreases-loop-filled g l = length l.buf - l.filled
