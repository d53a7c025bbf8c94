use Rattle.std.proofs.Common.{◌≡◌, ◌≤◌}
use Rattle.nif_base.specs.Node.{Members}
use Rattle.nif_decode.specs.Answers.{stand}
use Rattle.nif_decode.specs.MembersSoFar.{HoldsAt, MembersSoFar}
use Rattle.nif_decode.proofs.members.read_members.Given as goal

abbrev pub invariant-loop-place : goal.invariant-loop-place
invariant-loop-place g l = record {
  behind : l.from ≤ l.place;
  within : l.place ≤ l.to;
  trees : l.store.trees ≡ l.fn.store.trees;
  so_far : (held : Members) → HoldsAt l.at l.from (stand l.fn.taker l.fn.nodes l.fn.store l.fn.told.items) held
      → MembersSoFar g.S.Source.left g.S.Source.still g.S.Source.read_faults l.at l.from l.place held (stand l.fn.taker l.fn.nodes l.fn.store l.fn.told.items) (stand l.taker l.nodes l.store l.told.items);
}
