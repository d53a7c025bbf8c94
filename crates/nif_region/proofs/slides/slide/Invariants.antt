use Rattle.std.proofs.Common.{◌-◌, ◌≡◌, vec_capacity}
use Rattle.nif_region.proofs.Slid.{Sliding}
use Rattle.nif_region.proofs.slides.slide.Given as goal

abbrev pub invariant-loop-from : goal.invariant-loop-from
invariant-loop-from l = record {
  sliding : Sliding l.building l.initial.cells.items l.initial.places l.cells.items l.places l.from l.to l.end;
  capacity : vec_capacity l.cells ≡ vec_capacity l.initial.cells;
}

abbrev pub decreases-loop-from : goal.decreases-loop-from
decreases-loop-from l = l.end - l.from
