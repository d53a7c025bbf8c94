use Rattle.std.proofs.Common.{◌≡◌, ◌++◌, take, true}
use Rattle.nif_decode.specs.Runs.{bytes_kept}
use Rattle.nif_decode.proofs.runs.keep_bytes.Given as goal

abbrev pub invariant-loop-byte : goal.invariant-loop-byte
invariant-loop-byte l = l.told.items ≡ l.initial.told.items ++ bytes_kept true (take l.byte-index l.bytes)
