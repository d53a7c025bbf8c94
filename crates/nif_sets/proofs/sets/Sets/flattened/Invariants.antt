use Rattle.std.proofs.Common.{take}
use Rattle.nif_sets.specs.Likes.{IsLike}
use Rattle.nif_sets.proofs.sets.Sets.flattened.Given as goal

abbrev pub invariant-loop-set : goal.invariant-loop-set
invariant-loop-set l = IsLike l.self l.flat.keys (take l.set-index l.sets)
