use Rattle.std.proofs.Common.{◌≡◌, ◌<◌, ℕ, false, length, Some}
use Rattle.std.specs.Prelude.{slice_get, vec_capacity}
use Rattle.nif_graph.proofs.marks.Marks.clear.Given as goal

abbrev pub invariant-loop-place : goal.invariant-loop-place
invariant-loop-place l = record {
  cleared : (k : ℕ) → k < l.place → slice_get l.self.marks.items k ≡ Some false;
  len : length l.self.marks.items ≡ length l.initial.self.marks.items;
  room : vec_capacity l.self.marks ≡ vec_capacity l.initial.self.marks;
  queue : l.self.queue ≡ l.initial.self.queue;
}
