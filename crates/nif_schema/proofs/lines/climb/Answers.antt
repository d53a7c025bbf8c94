use Rattle.std.proofs.Common.{◌≡◌, ◌≤◌, ◌-◌, ◌+◌, ◌/◌, arith, subst, sym, Some}
use Rattle.std.proofs.lemmas.List.Elements.{All-push}
use Rattle.nif_schema.specs.Schema.{ancestor}
use Rattle.nif_schema.specs.Kept.{AreWaypoints}
use Rattle.nif_schema.specs.declared.lines.Waypoint.{Waypoint}
use Rattle.nif_schema.proofs.WalkLemmas.{ancestor-within}
use Rattle.nif_schema.proofs.LineLemmas.{reaches, ancestor_further}
use Rattle.nif_schema.proofs.lines.climb.Goals as goal

pub go_up-requires-clause-within : goal.go_up-requires-clause-within
go_up-requires-clause-within c =
    ancestor-within c.args.schema.now c.loop-at.at.above c.args.own c.loop-at.at.number c.requires.within c.loop-at.invariant.1

pub go_up-requires-clause-reaches : goal.go_up-requires-clause-reaches
go_up-requires-clause-reaches c =
    let far = c.args.target - c.loop-at.at.above in
    let part : (far - far / 2) + c.loop-at.at.above ≤ c.args.target = omega arith in
    reaches c.args.schema.now c.args.target c.loop-at.at.above c.args.own c.loop-at.at.number (far - far / 2) part c.requires.reaches c.loop-at.invariant.1

pub loop-at-preserved-then-not-is_full : goal.loop-at-preserved-then-not-is_full
loop-at-preserved-then-not-is_full c =
    let far = c.args.target - c.loop-at.at.above in
    let further =
    ancestor_further c.args.schema.now c.loop-at.at.above c.args.own c.loop-at.at.number (far - far / 2) c.go_up.result c.loop-at.invariant.1 c.go_up.ensures.value
    in
    let waypoint : Waypoint = record { above = c.loop-at.at.above + (far - far / 2); number = c.go_up.result } in
    let on_walk : Waypoint → Type 0 = λ m. ancestor c.args.schema.now m.above c.args.own ≡ Some m.number in (
      omega arith,
      further,
      subst (AreWaypoints c.args.schema.now c.args.own) (sym c.push.ensures.items)
          (All-push on_walk c.loop-at.waypoints.items waypoint c.loop-at.invariant.2 further),
    )

pub loop-at-preserved : goal.loop-at-preserved
loop-at-preserved c =
    let far = c.args.target - c.loop-at.at.above in (
      omega arith,
      ancestor_further c.args.schema.now c.loop-at.at.above c.args.own c.loop-at.at.number (far - far / 2) c.go_up.result c.loop-at.invariant.1 c.go_up.ensures.value,
      c.loop-at.invariant.2,
    )
