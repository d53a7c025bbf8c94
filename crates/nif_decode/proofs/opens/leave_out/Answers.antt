use Rattle.nif_decode.specs.Answers.{stand}
use Rattle.nif_decode.proofs.Rooms.{room_absent}
use Rattle.nif_decode.proofs.opens.leave_out.Goals as goal

pub absent-requires : goal.absent-requires
absent-requires g c =
    record { takes = room_absent (stand c.args.taker.now c.args.nodes.now c.args.store.now c.args.told.now.items) 0 c.requires.ready.room c.in-Ok.ensures.room c.requires.ready.taker.within c.requires.group }
