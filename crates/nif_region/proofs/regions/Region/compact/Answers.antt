use Rattle.std.proofs.Common.{arith}
use Rattle.nif_region.proofs.Standing.{slid-shorter}
use Rattle.nif_region.proofs.regions.Region.compact.Goals as goal

pub returns-clause-spare : goal.returns-clause-spare
returns-clause-spare c =
    let slides = c.slide.ensures.slides in
    let shorter = slid-shorter c.self.invariant _ _ slides in
    let keys = slides.same_keys in
    let places = slides.same_capacity in
    let cells = c.slide.ensures.capacity in
    rw (← c.self.view_is) (record { cells_left = omega arith; runs_left = omega arith })
