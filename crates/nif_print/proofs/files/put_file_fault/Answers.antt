use Rattle.std.proofs.Common.{OnOk, OnErr, sym, subst}
use Rattle.nif_stream.specs.Putting.{Puts, Fails}
use Rattle.nif_print.specs.Files.{file_fault_text}
use Rattle.nif_print.proofs.files.put_file_fault.Goals as goal

pub returns-in-TypeIndex-clause-ok : goal.returns-in-TypeIndex-clause-ok
returns-in-TypeIndex-clause-ok g c =
    subst (λ f. OnOk c.put_index.result (Puts g.K.Sink.grew g.K.Sink.write_faults c.args.out.now (file_fault_text f) c.put_index.new.out)) (sym c.in-TypeIndex.is) c.put_index.ensures.ok

pub returns-in-TypeIndex-clause-err : goal.returns-in-TypeIndex-clause-err
returns-in-TypeIndex-clause-err g c =
    subst (λ f. OnErr c.put_index.result (Fails g.K.Sink.grew g.K.Sink.write_faults c.args.out.now (file_fault_text f) c.put_index.new.out)) (sym c.in-TypeIndex.is) c.put_index.ensures.err

pub returns-in-AbstractType-clause-ok : goal.returns-in-AbstractType-clause-ok
returns-in-AbstractType-clause-ok g c =
    subst (λ f. OnOk c.put_abstract.result (Puts g.K.Sink.grew g.K.Sink.write_faults c.args.out.now (file_fault_text f) c.put_abstract.new.out)) (sym c.in-AbstractType.is) c.put_abstract.ensures.ok

pub returns-in-AbstractType-clause-err : goal.returns-in-AbstractType-clause-err
returns-in-AbstractType-clause-err g c =
    subst (λ f. OnErr c.put_abstract.result (Fails g.K.Sink.grew g.K.Sink.write_faults c.args.out.now (file_fault_text f) c.put_abstract.new.out)) (sym c.in-AbstractType.is) c.put_abstract.ensures.err

pub returns-in-ClosedType-clause-ok : goal.returns-in-ClosedType-clause-ok
returns-in-ClosedType-clause-ok g c =
    subst (λ f. OnOk c.put_closed.result (Puts g.K.Sink.grew g.K.Sink.write_faults c.args.out.now (file_fault_text f) c.put_closed.new.out)) (sym c.in-ClosedType.is) c.put_closed.ensures.ok

pub returns-in-ClosedType-clause-err : goal.returns-in-ClosedType-clause-err
returns-in-ClosedType-clause-err g c =
    subst (λ f. OnErr c.put_closed.result (Fails g.K.Sink.grew g.K.Sink.write_faults c.args.out.now (file_fault_text f) c.put_closed.new.out)) (sym c.in-ClosedType.is) c.put_closed.ensures.err

pub returns-in-CheckWord-clause-ok : goal.returns-in-CheckWord-clause-ok
returns-in-CheckWord-clause-ok g c =
    subst (λ f. OnOk c.put_check_word.result (Puts g.K.Sink.grew g.K.Sink.write_faults c.args.out.now (file_fault_text f) c.put_check_word.new.out)) (sym c.in-CheckWord.is) c.put_check_word.ensures.ok

pub returns-in-CheckWord-clause-err : goal.returns-in-CheckWord-clause-err
returns-in-CheckWord-clause-err g c =
    subst (λ f. OnErr c.put_check_word.result (Fails g.K.Sink.grew g.K.Sink.write_faults c.args.out.now (file_fault_text f) c.put_check_word.new.out)) (sym c.in-CheckWord.is) c.put_check_word.ensures.err

pub returns-in-RefRange-clause-ok : goal.returns-in-RefRange-clause-ok
returns-in-RefRange-clause-ok g c =
    subst (λ f. OnOk c.put_found.result (Puts g.K.Sink.grew g.K.Sink.write_faults c.args.out.now (file_fault_text f) c.put_found.new.out)) (sym c.in-RefRange.is) c.put_found.ensures.ok

pub returns-in-RefRange-clause-err : goal.returns-in-RefRange-clause-err
returns-in-RefRange-clause-err g c =
    subst (λ f. OnErr c.put_found.result (Fails g.K.Sink.grew g.K.Sink.write_faults c.args.out.now (file_fault_text f) c.put_found.new.out)) (sym c.in-RefRange.is) c.put_found.ensures.err

pub returns-in-StringRange-clause-ok : goal.returns-in-StringRange-clause-ok
returns-in-StringRange-clause-ok g c =
    subst (λ f. OnOk c.put_found-in-StringRange.result (Puts g.K.Sink.grew g.K.Sink.write_faults c.args.out.now (file_fault_text f) c.put_found-in-StringRange.new.out)) (sym c.in-StringRange.is) c.put_found-in-StringRange.ensures.ok

pub returns-in-StringRange-clause-err : goal.returns-in-StringRange-clause-err
returns-in-StringRange-clause-err g c =
    subst (λ f. OnErr c.put_found-in-StringRange.result (Fails g.K.Sink.grew g.K.Sink.write_faults c.args.out.now (file_fault_text f) c.put_found-in-StringRange.new.out)) (sym c.in-StringRange.is) c.put_found-in-StringRange.ensures.err

pub returns-in-TooDeep-clause-ok : goal.returns-in-TooDeep-clause-ok
returns-in-TooDeep-clause-ok g c =
    subst (λ f. OnOk c.put_counted-in-TooDeep.result (Puts g.K.Sink.grew g.K.Sink.write_faults c.args.out.now (file_fault_text f) c.put_counted-in-TooDeep.new.out)) (sym c.in-TooDeep.is) c.put_counted-in-TooDeep.ensures.ok

pub returns-in-TooDeep-clause-err : goal.returns-in-TooDeep-clause-err
returns-in-TooDeep-clause-err g c =
    subst (λ f. OnErr c.put_counted-in-TooDeep.result (Fails g.K.Sink.grew g.K.Sink.write_faults c.args.out.now (file_fault_text f) c.put_counted-in-TooDeep.new.out)) (sym c.in-TooDeep.is) c.put_counted-in-TooDeep.ensures.err

pub returns-in-TooManyNodes-clause-ok : goal.returns-in-TooManyNodes-clause-ok
returns-in-TooManyNodes-clause-ok g c =
    subst (λ f. OnOk c.put_counted-in-TooManyNodes.result (Puts g.K.Sink.grew g.K.Sink.write_faults c.args.out.now (file_fault_text f) c.put_counted-in-TooManyNodes.new.out)) (sym c.in-TooManyNodes.is) c.put_counted-in-TooManyNodes.ensures.ok

pub returns-in-TooManyNodes-clause-err : goal.returns-in-TooManyNodes-clause-err
returns-in-TooManyNodes-clause-err g c =
    subst (λ f. OnErr c.put_counted-in-TooManyNodes.result (Fails g.K.Sink.grew g.K.Sink.write_faults c.args.out.now (file_fault_text f) c.put_counted-in-TooManyNodes.new.out)) (sym c.in-TooManyNodes.is) c.put_counted-in-TooManyNodes.ensures.err
