use Rattle.std.proofs.Common.{ℕ, OnOk, OnErr, codes, subst}
use Rattle.nif_stream.specs.Putting.{Puts, Fails}
use Rattle.nif_print.specs.Files.{counted_twice}
use Rattle.nif_print.proofs.files.put_closed.Goals as goal

pub returns-clause-ok : goal.returns-clause-ok
returns-clause-ok g c =
    subst (λ (n : ℕ). OnOk c.put_counted_twice.result (Puts g.K.Sink.grew g.K.Sink.write_faults c.args.out.now (counted_twice (codes "file F15: block ") c.args.block (codes " closed type C") n) c.put_counted_twice.new.out))
    c.reason_number.ensures c.put_counted_twice.ensures.ok

pub returns-clause-err : goal.returns-clause-err
returns-clause-err g c =
    subst (λ (n : ℕ). OnErr c.put_counted_twice.result (Fails g.K.Sink.grew g.K.Sink.write_faults c.args.out.now (counted_twice (codes "file F15: block ") c.args.block (codes " closed type C") n) c.put_counted_twice.new.out))
    c.reason_number.ensures c.put_counted_twice.ensures.err
