use Rattle.std.proofs.Common.{take}
use Rattle.nif_paths.specs.Shaped.{HasBits}
use Rattle.nif_paths.proofs.tables.bit_names.Given as goal

abbrev pub invariant-loop-place : goal.invariant-loop-place
invariant-loop-place l = HasBits (take l.place l.members) l.names
