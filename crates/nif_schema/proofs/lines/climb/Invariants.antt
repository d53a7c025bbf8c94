use Rattle.std.proofs.Common.{◌≡◌, ◌≤◌, ◌-◌, Some}
use Rattle.nif_schema.specs.Schema.{ancestor}
use Rattle.nif_schema.specs.Kept.{AreWaypoints}
use Rattle.nif_schema.proofs.lines.climb.Given as goal

abbrev pub invariant-loop-at : goal.invariant-loop-at
invariant-loop-at l =
    (l.at.above ≤ l.target) × (ancestor l.schema l.at.above l.own ≡ Some l.at.number) × AreWaypoints l.schema l.own l.waypoints.items

abbrev pub decreases-loop-at : goal.decreases-loop-at
decreases-loop-at l = l.target - l.at.above
