use Rattle.std.proofs.Common.{◌≡◌, ℕ, length, take}
use Rattle.nif_schema.proofs.lines.nearest.Given as goal

abbrev pub invariant-loop-waypoint : goal.invariant-loop-waypoint
invariant-loop-waypoint l = (n : ℕ) × (l.waypoints.items ≡ take n l.fn.waypoints.items)

abbrev pub decreases-loop-waypoint : goal.decreases-loop-waypoint
decreases-loop-waypoint l = length l.waypoints.items
