use Rattle.std.proofs.Common.{sym, ◌∙◌, ap, subst}
use Rattle.nif_decode.specs.Faults.{take_cause}
use Rattle.nif_decode.specs.Answers.{Ends, line_ends}
use Rattle.nif_decode.proofs.Ending.{line_ends_from}
use Rattle.nif_decode.proofs.takes.take_line.Goals as goal

pub returns-in-Err-clause-err : goal.returns-in-Err-clause-err
returns-in-Err-clause-err g c =
    let e = line_ends_from g.S.Source.left g.S.Source.still g.S.Source.read_faults c.args.taker.now c.line.new.self c.in-Err.fault c.requires c.in-Err.ensures.err in
    subst (λ w. Ends g.S.Source.left g.S.Source.still g.S.Source.read_faults line_ends c.args.taker.now c.line.new.self w)
    (ap (λ p. take_cause p c.in-Err.fault) (sym c.place-at.ensures.place) ∙ sym c.fault_at.ensures) e
