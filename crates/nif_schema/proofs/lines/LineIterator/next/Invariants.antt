use Rattle.std.proofs.Common.{◌≡◌}
use Rattle.nif_schema.specs.Kept.{left_of, IsOnWalk}
use Rattle.nif_schema.proofs.lines.LineIterator.next.Given as goal

abbrev pub invariant-loop-self : goal.invariant-loop-self
invariant-loop-self l =
    (l.self-inside.schema.now ≡ l.schema)
    × IsOnWalk l.schema l.self-inside.own l.self-inside.above l.self-inside.number l.self-inside.waypoints.items
    × (left_of l.schema l.self-inside.own l.self-inside.above l.self-inside.number l.self-inside.place ≡ l.fn.self)

abbrev pub decreases-loop-self : goal.decreases-loop-self
decreases-loop-self l = l.self-inside.above
