use Rattle.std.proofs.Common.{◌≡◌, ◌≤◌, length}
use Rattle.nif_stream.specs.declared.takers.Taker.{Taker}
use Rattle.nif_file.specs.Files.{header_line}
use Rattle.nif_file.specs.HeaderReading.{StandsAt}
use Rattle.nif_file.proofs.header.read_members.Given as goal

abbrev pub invariant-loop-place : goal.invariant-loop-place
invariant-loop-place g l = record {
  most : l.place ≤ length (header_line l.schema);
  trees : l.store.trees ≡ l.fn.store.trees;
  none : (l.bounds.blocks ≡ 0) × (l.bounds.strings ≡ 0);
  so_far : (start : Taker g.row.S.Denot) → StandsAt g.S.Source.left g.S.Source.still g.S.Source.read_faults l.schema l.header 1 start l.fn.taker l.fn.scope l.fn.store.building l.fn.bounds.nodes l.fn.head
      → StandsAt g.S.Source.left g.S.Source.still g.S.Source.read_faults l.schema l.header l.place start l.taker l.scope l.store.building l.bounds.nodes l.head;
}
