use Rattle.std.proofs.Common.{◌≡◌}
use Rattle.std.specs.Prelude.{vec_capacity}
use Rattle.nif_graph.proofs.Placing.{IsEntering}
use Rattle.nif_graph.proofs.slots.enter.Given as goal

abbrev pub invariant-loop-place : goal.invariant-loop-place
invariant-loop-place l = record {
  entering : IsEntering l.slots.items l.initial.places.items l.places.items l.place;
  room : vec_capacity l.places ≡ vec_capacity l.initial.places;
}
