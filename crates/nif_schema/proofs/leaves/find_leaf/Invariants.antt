use Rattle.std.proofs.Common.{◌≡◌, drop, map}
use Rattle.nif_schema.specs.Leaves.{row_of, leaf_in}
use Rattle.nif_schema.proofs.leaves.find_leaf.Given as goal

-- no row that was passed has the name
abbrev pub invariant-loop-other : goal.invariant-loop-other
invariant-loop-other l = leaf_in l.name (map row_of l.table) ≡ leaf_in l.name (map row_of (drop l.other-index l.table))
