use Rattle.std.proofs.Common.{◌≡◌, Some, length, refl, arith}
use Rattle.std.specs.Prelude.{slice_get}
use Rattle.std.proofs.lemmas.Option.{slice_get_read}
use Rattle.nif_graph.proofs.Placing.{enters}
use Rattle.nif_graph.proofs.slots.enter.Goals as goal

pub loop-place-preserved : goal.loop-place-preserved
loop-place-preserved c =
    let there : slice_get c.args.slots.now.items c.loop-place.place ≡ Some c.index-slot.result.now =
    slice_get_read c.args.slots.now.items (length c.args.slots.now.items) c.loop-place.place c.index-slot.result.now refl
    (omega (arith, c.args.slots.now.ok.0)) c.index-slot.ensures in
    record {
      entering = enters c.args.slots.now.items c.args.places.now.items c.loop-place.places.items _ c.loop-place.place
          c.index-slot.result.now c.requires.different c.loop-place.invariant.entering there
          (c.requires.names c.loop-place.place c.index-slot.result.now there) refl;
      room = c.loop-place.invariant.room;
    }
