use Rattle.std.proofs.Common.{subst, arith}
use Rattle.nif_stream.specs.Putting.{Puts, Fails}
use Rattle.nif_file.specs.Files.{sized_string}
use Rattle.nif_file.proofs.PartsPuts.{first_none, first_next, first_failed, first_all}
use Rattle.nif_file.proofs.encode_header.put_types.Goals as goal

pub loop-k-init : goal.loop-k-init
loop-k-init g c =
    first_none g.K.Sink.grew g.K.Sink.write_faults c.args.out.now (sized_string c.args.order) c.args.graph.now.graph.types c.requires

pub returns-in-Err-clause-err : goal.returns-in-Err-clause-err
returns-in-Err-clause-err g c =
    first_failed g.K.Sink.grew g.K.Sink.write_faults c.args.out.now c.loop-k.out c.put_sized.new.out (sized_string c.args.order) c.args.graph.now.graph.types c.loop-k.k
    c.entry.result.now c.loop-k.invariant c.entry.ensures
    (subst (λ l. Fails g.K.Sink.grew g.K.Sink.write_faults c.loop-k.out (sized_string c.args.order l) c.put_sized.new.out) c.bytes.ensures c.in-Err.ensures.err)

pub loop-k-preserved : goal.loop-k-preserved
loop-k-preserved g c =
    first_next g.K.Sink.grew g.K.Sink.write_faults c.args.out.now c.loop-k.out c.put_sized.new.out (sized_string c.args.order) c.args.graph.now.graph.types c.loop-k.k
    c.entry.result.now c.loop-k.invariant c.entry.ensures
    (subst (λ l. Puts g.K.Sink.grew g.K.Sink.write_faults c.loop-k.out (sized_string c.args.order l) c.put_sized.new.out) c.bytes.ensures c.in-Ok.ensures.ok)

pub returns-clause-ok : goal.returns-clause-ok
returns-clause-ok g c =
    first_all g.K.Sink.grew g.K.Sink.write_faults c.args.out.now c.loop-k.out (sized_string c.args.order) c.args.graph.now.graph.types c.loop-k.k c.loop-k.invariant
    (omega (arith, c.loop-k-test.false, c.entries-k-end.ensures))
