use Rattle.std.proofs.Common.{◌≡◌}
use Rattle.std.specs.Prelude.{vec_capacity}
use Rattle.nif_base.specs.Node.{refs}
use Rattle.nif_graph.specs.State.{node_at}
use Rattle.nif_graph.proofs.Marking.{IsExpanding}
use Rattle.nif_graph.proofs.marks.Marks.expand.Given as goal

abbrev pub invariant-loop-k : goal.invariant-loop-k
invariant-loop-k l = record {
  expanding : IsExpanding (refs (node_at l.store l.tree)) l.initial.self.marks.items l.initial.self.queue.items
      l.self.marks.items l.self.queue.items l.k;
  marks_room : vec_capacity l.self.marks ≡ vec_capacity l.initial.self.marks;
  queue_room : vec_capacity l.self.queue ≡ vec_capacity l.initial.self.queue;
}
