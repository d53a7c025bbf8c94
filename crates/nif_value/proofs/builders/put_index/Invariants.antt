use Rattle.std.proofs.Common.{◌≡◌, take}
use Rattle.nif_cells.specs.Encoding.{index_from}
use Rattle.nif_value.specs.Built.{Puts}
use Rattle.nif_value.proofs.builders.put_index.Given as goal

abbrev pub invariant-loop-place : goal.invariant-loop-place
invariant-loop-place l = record {
  puts : Puts l.fn.region l.region (index_from 0 (take l.place-index l.references));
  number_is : l.number ≡ l.place-index;
}
