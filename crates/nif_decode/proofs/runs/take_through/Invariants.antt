use Rattle.std.proofs.Common.{ℕ, ◌-◌, ◌≤◌, ◌≡◌, length}
use Rattle.nif_decode.specs.Answers.{stand}
use Rattle.nif_decode.specs.Runs.{RunSoFar}
use Rattle.nif_decode.proofs.runs.take_through.Given as goal

abbrev pub invariant-loop-left : goal.invariant-loop-left
invariant-loop-left g l = record {
  long : length l.buffer ≡ length l.fn.buffer;
  within : l.left ≤ l.count;
  trees : l.store.trees ≡ l.fn.store.trees;
  so_far : (nodes : ℕ) → RunSoFar g.S.Source.left g.S.Source.still g.S.Source.read_faults l.asked (l.count - l.left) (stand l.fn.taker nodes l.fn.store l.fn.told.items) (stand l.taker nodes l.store l.told.items);
}

abbrev pub decreases-loop-left : goal.decreases-loop-left
decreases-loop-left g l = l.left
