use Rattle.std.proofs.Common.{Bool, sym, subst, ◌∙◌}
use Rattle.nif_stream.specs.Putting.{Puts}
use Rattle.nif_file.specs.Files.{zero_where}
use Rattle.nif_file.proofs.PartsPuts.{puts_none}
use Rattle.nif_file.proofs.encode.put_zero_word.Goals as goal

pub returns-clause-ok : goal.returns-clause-ok
returns-clause-ok g c =
    subst (λ (b : Bool). Puts g.K.Sink.grew g.K.Sink.write_faults c.args.out.now (zero_where b) c.args.out.now)
    (sym (sym c.has_zero_word.ensures ∙ c.if-has_zero_word.false)) (puts_none g.K.Sink.grew g.K.Sink.write_faults c.args.out.now c.requires)
