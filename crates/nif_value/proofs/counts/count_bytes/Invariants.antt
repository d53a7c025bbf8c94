use Rattle.std.proofs.Common.{◌≡◌, List, Some, take}
use Rattle.std.specs.List.{sum_by}
use Rattle.nif_region.specs.Contents.{find}
use Rattle.nif_region.specs.declared.cells.Cell.{Cell}
use Rattle.nif_cells.specs.Codes.{content_of}
use Rattle.nif_value.specs.Counts.{bytes_said}
use Rattle.nif_value.proofs.counts.count_bytes.Given as goal

abbrev pub invariant-loop-place : goal.invariant-loop-place
invariant-loop-place l = (cells : List Cell) → find l.fn.region.runs l.fn.run.key ≡ Some cells → l.count ≡ sum_by (λ c. bytes_said (content_of c)) (take l.place cells)
