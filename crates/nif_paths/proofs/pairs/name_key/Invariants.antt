use Rattle.std.proofs.Common.{◌≡◌, ◌+◌, map, take}
use Rattle.nif_paths.proofs.pairs.name_key.Given as goal

abbrev pub invariant-loop-byte : goal.invariant-loop-byte
invariant-loop-byte l = l.key.items ≡ map (λ b. b + 1) (take l.byte-index l.name)
