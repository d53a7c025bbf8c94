use Rattle.std.proofs.Common.{◌≡◌, take}
use Rattle.nif_schema.proofs.paths.Path.same.Given as goal

abbrev pub invariant-loop-i : goal.invariant-loop-i
invariant-loop-i l = take l.i l.name-items ≡ take l.i l.other-inside.names.items
