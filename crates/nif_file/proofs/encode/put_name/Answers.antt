use Rattle.std.proofs.Common.{ℕ, Option, sym, subst}
use Rattle.nif_stream.specs.Putting.{Puts}
use Rattle.nif_file.specs.Files.{name_of, name_where}
use Rattle.nif_file.proofs.PartsPuts.{puts_none}
use Rattle.nif_file.proofs.encode.put_name.Goals as goal

pub returns-in-Some-clause-ok : goal.returns-in-Some-clause-ok
returns-in-Some-clause-ok g c =
    subst (λ (i : Option ℕ). Puts g.K.Sink.grew g.K.Sink.write_faults c.args.out.now (name_where i c.args.order (name_of c.args.schema.now c.args.kind)) c.args.out.now)
    (sym c.in-Some.is) (puts_none g.K.Sink.grew g.K.Sink.write_faults c.args.out.now c.requires.sound)
