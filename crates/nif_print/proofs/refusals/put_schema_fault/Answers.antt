use Rattle.std.proofs.Common.{ap, sym, ◌∙◌, subst, ◌++◌}
use Rattle.std.specs.Prelude.{OnOk, OnErr, codes}
use Rattle.nif_stream.specs.Putting.{Puts, Fails}
use Rattle.nif_print.specs.Refusals.{schema_fault_text}
use Rattle.nif_print.proofs.refusals.put_schema_fault.Goals as goal

pub returns-in-DuplicateName-clause-ok : goal.returns-in-DuplicateName-clause-ok
returns-in-DuplicateName-clause-ok g c =
    subst (λ text. OnOk c.put_named.result (Puts g.K.Sink.grew g.K.Sink.write_faults c.args.out.now text c.put_named.new.out))
    (ap (λ name. codes "schema S4: duplicate name " ++ name) c.bytes.ensures ∙ ap schema_fault_text (sym c.in-DuplicateName.is)) c.put_named.ensures.ok

pub returns-in-DuplicateName-clause-err : goal.returns-in-DuplicateName-clause-err
returns-in-DuplicateName-clause-err g c =
    subst (λ text. OnErr c.put_named.result (Fails g.K.Sink.grew g.K.Sink.write_faults c.args.out.now text c.put_named.new.out))
    (ap (λ name. codes "schema S4: duplicate name " ++ name) c.bytes.ensures ∙ ap schema_fault_text (sym c.in-DuplicateName.is)) c.put_named.ensures.err

pub returns-in-BadToken-clause-ok : goal.returns-in-BadToken-clause-ok
returns-in-BadToken-clause-ok g c =
    subst (λ text. OnOk c.put_counted-in-BadToken.result (Puts g.K.Sink.grew g.K.Sink.write_faults c.args.out.now text c.put_counted-in-BadToken.new.out))
    (ap schema_fault_text (sym c.in-BadToken.is)) c.put_counted-in-BadToken.ensures.ok

pub returns-in-BadToken-clause-err : goal.returns-in-BadToken-clause-err
returns-in-BadToken-clause-err g c =
    subst (λ text. OnErr c.put_counted-in-BadToken.result (Fails g.K.Sink.grew g.K.Sink.write_faults c.args.out.now text c.put_counted-in-BadToken.new.out))
    (ap schema_fault_text (sym c.in-BadToken.is)) c.put_counted-in-BadToken.ensures.err
