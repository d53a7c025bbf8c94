use Rattle.std.proofs.Common.{◌≡◌, ◌++◌, length, take, drop}
use Rattle.nif_region.specs.Contents.{find}
use Rattle.nif_cells.specs.Reading.{said, bytes_at}
use Rattle.nif_value.specs.Kept.{cells_in}
use Rattle.nif_value.proofs.walks.copy_bytes.Given as goal

abbrev pub invariant-loop-i : goal.invariant-loop-i
invariant-loop-i l = record {
  kept : length l.buf ≡ length l.fn.buf;
  copied : l.buf ≡ take l.i (drop l.span.copied (bytes_at (said (drop l.span.first (cells_in (find l.region.runs l.run.key)))))) ++ drop l.i l.fn.buf;
}
