use Rattle.nif_region.proofs.Standing.{place_is_live, live_has_place}
use Rattle.nif_region.proofs.regions.Region.is_live.Goals as goal

pub returns : goal.returns
returns c =
    let inside = c.self.inside in
    rw (← c.self.view_is) (
      λ found. place_is_live inside.building inside.cells.items inside.places c.args.run.key c.self.invariant.laid (c.contains.ensures.0 found),
      λ live. c.contains.ensures.1 (live_has_place inside.building inside.cells.items inside.places c.args.run.key c.self.invariant.laid live),
    )
