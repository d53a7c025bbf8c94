use Rattle.std.proofs.Common.{◌≡◌, ◌-◌, length, map}
use Rattle.std.specs.Prelude.{vec_capacity}
use Rattle.nif_graph.specs.Kept.{named_in}
use Rattle.nif_graph.proofs.Marking.{IsReaching}
use Rattle.nif_graph.proofs.marks.Marks.mark_reached.Given as goal

abbrev pub invariant-loop-next : goal.invariant-loop-next
invariant-loop-next l = record {
  reaching : IsReaching (map (named_in l.store) l.slots.slots) l.from l.self.marks.items l.self.queue.items l.next;
  len : length l.self.marks.items ≡ l.slots.next;
  marks_room : vec_capacity l.self.marks ≡ vec_capacity l.fn.self.marks;
  queue_room : vec_capacity l.self.queue ≡ vec_capacity l.fn.self.queue;
}

abbrev pub decreases-loop-next : goal.decreases-loop-next
decreases-loop-next l = length l.self.marks.items - l.next
