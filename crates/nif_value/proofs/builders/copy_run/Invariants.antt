use Rattle.std.proofs.Common.{◌≡◌, ◌+◌, ◌≤◌, List, Some, take}
use Rattle.nif_region.specs.Contents.{find}
use Rattle.nif_region.specs.declared.cells.Cell.{Cell}
use Rattle.nif_value.proofs.builders.copy_run.Given as goal

abbrev pub invariant-loop-place : goal.invariant-loop-place
invariant-loop-place l = record {
  same_runs : l.region.runs ≡ l.fn.region.runs;
  building_is : (cells : List Cell) → find l.fn.region.runs l.run.key ≡ Some cells → l.region.building ≡ Some (take l.place cells);
  cells_left : l.fn.region.spare_cells ≤ l.region.spare_cells + l.place + 1;
  runs_left : l.fn.region.spare_runs ≤ l.region.spare_runs + 1;
}
