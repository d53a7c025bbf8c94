use Rattle.nif_print.proofs.Lines.{Listed}
use Rattle.nif_print.proofs.listings.schema_list.Given as goal

abbrev pub invariant-loop-number : goal.invariant-loop-number
invariant-loop-number g l = Listed g.K.Sink.grew g.K.Sink.write_faults l.fn.out l.checked l.number l.open_types l.closed_types l.out
