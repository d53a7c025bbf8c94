use Rattle.std.proofs.Common.{◌++◌, ap, sym, ◌∙◌, append-nil, refl}
use Rattle.nif_stream.proofs.Writes.{puts_write, fails_write}
use Rattle.nif_stream.proofs.putters.Putter.write_through.Goals as goal

-- nothing is pending, before and after
pub returns-in-Ok-clause-ok : goal.returns-in-Ok-clause-ok
returns-in-Ok-clause-ok g c =
    let bytes = c.args.bytes.now in
    puts_write g.K.Sink.grew g.met.K.Sink.grew_joined g.K.Sink.write_faults _ _ bytes bytes c.in-Ok.ensures.ok
    (ap (λ l. bytes ++ l) c.requires.empty ∙ append-nil bytes ∙ sym (ap (λ l. l ++ bytes) c.requires.empty)) refl c.in-Ok.ensures.cause.later c.requires.sound

pub returns-in-Err-clause-err : goal.returns-in-Err-clause-err
returns-in-Err-clause-err g c =
    let bytes = c.args.bytes.now in
    let fell = c.in-Err.ensures.err in
    fails_write g.K.Sink.grew g.met.K.Sink.grew_joined g.K.Sink.write_faults _ _ bytes bytes fell.0 fell.1
    (sym (ap (λ l. l ++ bytes) c.requires.empty)) refl c.in-Err.ensures.cause.later refl c.in-Err.ensures.cause.failed
