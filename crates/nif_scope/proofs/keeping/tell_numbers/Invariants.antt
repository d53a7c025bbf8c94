use Rattle.std.proofs.Common.{◌≡◌, ◌++◌, take}
use Rattle.nif_scope.specs.Told.{bytes_told}
use Rattle.nif_scope.proofs.keeping.tell_numbers.Given as goal

abbrev pub invariant-loop-byte : goal.invariant-loop-byte
invariant-loop-byte l = l.entries.items ≡ l.fn.entries.items ++ bytes_told (take l.byte-index l.bytes)
