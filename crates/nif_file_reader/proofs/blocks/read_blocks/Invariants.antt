use Rattle.std.proofs.Common.{◌≡◌, None, length}
use Rattle.nif_base.specs.Node.{Members}
use Rattle.nif_file_reader.specs.Known.{Knows, HasBlocks}
use Rattle.nif_file_reader.proofs.blocks.read_blocks.Given as goal

abbrev pub invariant-loop-block : goal.invariant-loop-block
invariant-loop-block g l = record {
  building : l.store.building ≡ None;
  counts : (l.bounds.blocks ≡ l.fn.bounds.blocks) × (l.bounds.strings ≡ l.fn.bounds.strings);
  long : length l.blocks ≡ l.block;
  read : (members : Members) → Knows l.at.checked.now members l.at.header.now l.at.lists.now l.fn.store.trees
      → HasBlocks g.S.Source.left g.S.Source.still g.S.Source.read_faults l.at.checked.now members l.block l.fn.taker l.taker l.fn.bounds.nodes l.bounds.nodes l.fn.store l.store l.blocks;
}
