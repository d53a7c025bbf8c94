use Rattle.std.proofs.Common.{◌≡◌, ◌≢◌, ◌+◌, ◌^◌, ◌≤◌, length, take}
use Rattle.std.specs.Prelude.{All}
use Rattle.nif_stream.specs.Taking.{place_of, Reads}
use Rattle.nif_stream.proofs.takers.Taker.line.Given as goal

abbrev pub invariant-loop-length : goal.invariant-loop-length
invariant-loop-length g l = record {
  size : length l.into ≡ 255;
  room : place_of l.self + l.length ≤ 2 ^ 26;
  line : All (λ c. c ≢ 10) (take l.length l.into);
  reads : Reads g.S.Source.left g.S.Source.still g.S.Source.read_faults l.fn.self (take l.length l.into) l.self;
}
