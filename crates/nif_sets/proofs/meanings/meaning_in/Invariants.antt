use Rattle.std.proofs.Common.{take}
use Rattle.nif_sets.specs.Insides.{Means}
use Rattle.nif_sets.proofs.meanings.meaning_in.Given as goal

abbrev pub invariant-loop-number : goal.invariant-loop-number
invariant-loop-number l = Means l.tables l.name (take l.number-index l.types) l.numbers l.inner l.inside.keys
