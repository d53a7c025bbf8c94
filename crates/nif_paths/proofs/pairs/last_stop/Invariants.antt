use Rattle.std.proofs.Common.{take}
use Rattle.nif_paths.specs.Levels.{IsEnded}
use Rattle.nif_paths.proofs.pairs.last_stop.Given as goal

abbrev pub invariant-loop-inner : goal.invariant-loop-inner
invariant-loop-inner l = IsEnded l.tables l.name (take l.inner-index l.types) l.stop
