use Rattle.std.proofs.Common.{[], ◌++◌, ap, sym, ◌∙◌, append-nil, refl}
use Rattle.nif_stream.proofs.Writes.{puts_write, fails_write}
use Rattle.nif_stream.proofs.putters.Putter.flush.Goals as goal

pub returns-in-Ok-clause-ok : goal.returns-in-Ok-clause-ok
returns-in-Ok-clause-ok g c =
    let held = c.bytes.result.now in
    puts_write g.K.Sink.grew g.met.K.Sink.grew_joined g.K.Sink.write_faults _ _ [] held c.in-Ok.ensures.ok
    (ap (λ l. held ++ l) c.clear.ensures ∙ ap (λ l. l ++ []) c.bytes.ensures) refl c.in-Ok.ensures.cause.later c.requires

pub returns-in-Err-clause-err : goal.returns-in-Err-clause-err
returns-in-Err-clause-err g c =
    let fell = c.in-Err.ensures.err in
    fails_write g.K.Sink.grew g.met.K.Sink.grew_joined g.K.Sink.write_faults _ _ [] c.bytes.result.now fell.0 fell.1
    (c.bytes.ensures ∙ sym (append-nil c.args.self.now.pending)) refl c.in-Err.ensures.cause.later refl c.in-Err.ensures.cause.failed
