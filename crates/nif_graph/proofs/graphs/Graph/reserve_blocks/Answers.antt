use Rattle.std.proofs.Common.{refl, arith, ap, length}
use Rattle.nif_graph.specs.State.{origin_of}
use Rattle.nif_graph.proofs.Keeping.{roomier}
use Rattle.nif_graph.proofs.graphs.Graph.reserve_blocks.Goals as goal

pub invariant_of-self : goal.invariant_of-self
invariant_of-self c =
    roomier c.self.inside.store c.self.inside.header c.self.inside.footer c.self.inside.places (origin_of c.self.inside.context c.self.inside.strings) c.self.inside.indexed c.self.inside.types.items c.self.inside.slots c.self.inside.nodes c.self.inside.marks c.self.inside.room c.self.invariant
    c.reserve.new.self c.self.inside.marks c.self.inside.room c.reserve.ensures.slots c.reserve.ensures.next refl
    c.self.invariant.queued c.self.invariant.markable (omega (arith, c.reserve.ensures.stays, c.self.invariant.roomy))

pub invariant_of-self-in-Err-reserve : goal.invariant_of-self-in-Err-reserve
invariant_of-self-in-Err-reserve c =
    roomier c.self.inside.store c.self.inside.header c.self.inside.footer c.self.inside.places (origin_of c.self.inside.context c.self.inside.strings) c.self.inside.indexed c.self.inside.types.items c.self.inside.slots c.self.inside.nodes c.self.inside.marks c.self.inside.room c.self.invariant
    c.reserve.new.self c.reserve-2.new.self c.self.inside.room c.reserve.ensures.slots c.reserve.ensures.next
    (ap length c.reserve-2.ensures.marks)
    (omega (arith, c.self.invariant.queued, c.reserve-2.ensures.queue_stays))
    (omega (arith, c.self.invariant.markable, c.reserve-2.ensures.marks_stay))
    (omega (arith, c.reserve.ensures.stays, c.self.invariant.roomy))

pub invariant_of-self-2 : goal.invariant_of-self-2
invariant_of-self-2 c =
    roomier c.self.inside.store c.self.inside.header c.self.inside.footer c.self.inside.places (origin_of c.self.inside.context c.self.inside.strings) c.self.inside.indexed c.self.inside.types.items c.self.inside.slots c.self.inside.nodes c.self.inside.marks c.self.inside.room c.self.invariant
    c.reserve.new.self c.reserve-2.new.self c.args.blocks c.reserve.ensures.slots c.reserve.ensures.next
    (ap length c.reserve-2.ensures.marks)
    (omega (arith, c.in-Ok-reserve.ensures.queue_room, c.next.ensures, c.reserve.ensures.next))
    (omega (arith, c.in-Ok-reserve.ensures.marks_room, c.next.ensures, c.reserve.ensures.next))
    c.in-Ok.ensures.ok
