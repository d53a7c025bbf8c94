use Rattle.std.proofs.Common.{◌≤◌, ◌-◌, take, length}
use Rattle.nif_base.proofs.transfer.write_all.Given as goal

abbrev pub invariant-loop-done : goal.invariant-loop-done
invariant-loop-done g l = record {
  within : l.done ≤ length l.bytes;
  grew : g.K.Sink.grew l.fn.sink (take l.done l.bytes) l.sink;
  later : g.K.Sink.write_faults l.fn.sink ≤ g.K.Sink.write_faults l.sink;
}

abbrev pub decreases-loop-done : goal.decreases-loop-done
decreases-loop-done g l = length l.bytes - l.done
