use Rattle.std.proofs.Common.{length, sym, arith}
use Rattle.std.proofs.lemmas.List.{take_all}
use Rattle.nif_schema.proofs.lines.nearest.Goals as goal

pub loop-waypoint-init : goal.loop-waypoint-init
loop-waypoint-init c = (length c.args.waypoints.now.items, sym (take_all (length c.args.waypoints.now.items) c.args.waypoints.now.items (omega arith)))
