use Rattle.std.proofs.Common.{◌≡◌, ◌≤◌, ◌-◌, vec_len}
use Rattle.nif_base.specs.Outside.{prepended}
use Rattle.nif_base.proofs.transfer.read_at_most.Given as goal

abbrev pub invariant-reads : goal.invariant-reads
invariant-reads g l = record {
  within : vec_len l.bytes ≤ l.most;
  told : g.S.Source.left l.fn.source ≡ prepended l.bytes.items (g.S.Source.left l.source);
  still : g.S.Source.still l.fn.source l.source;
  later : g.S.Source.read_faults l.fn.source ≤ g.S.Source.read_faults l.source;
}

abbrev pub decreases-reads : goal.decreases-reads
decreases-reads g l = l.most - vec_len l.bytes
