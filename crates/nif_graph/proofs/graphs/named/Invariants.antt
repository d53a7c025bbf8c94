use Rattle.std.proofs.Common.{◌≡◌, ◌+◌, ◌≤◌, length}
use Rattle.std.specs.Prelude.{take}
use Rattle.nif_graph.specs.Slots.{slots_from}
use Rattle.nif_graph.proofs.graphs.named.Given as goal

abbrev pub invariant-loop-place : goal.invariant-loop-place
invariant-loop-place l = record {
  slots : l.slots.slots ≡ slots_from 0 (take l.place l.blocks);
  next : l.slots.next ≡ l.place;
  room : length l.blocks ≤ l.slots.room + l.place;
}
