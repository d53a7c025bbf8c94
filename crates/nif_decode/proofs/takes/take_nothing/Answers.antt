use Rattle.std.proofs.Common.{◌∙◌, ◌≤◌, ◌^◌, None, sym, ap, subst}
use Rattle.nif_stream.specs.Taking.{Takes, Misses, place_of, need_fault, asked_at}
use Rattle.nif_decode.specs.Faults.{take_cause}
use Rattle.nif_decode.specs.Answers.{Ends}
use Rattle.nif_decode.proofs.Nothing.{no_bytes, nothing_ends}
use Rattle.nif_decode.proofs.takes.take_nothing.Goals as goal

pub returns-in-Ok-clause-ok : goal.returns-in-Ok-clause-ok
returns-in-Ok-clause-ok g c =
    subst (λ b. Takes g.S.Source.left g.S.Source.still g.S.Source.read_faults c.args.taker.now b c.take.new.self) (no_bytes c.take.new.buf c.take.auto.buf) c.in-Ok.ensures.ok

pub returns-in-Err-clause-err : goal.returns-in-Err-clause-err
returns-in-Err-clause-err g c =
    subst (λ w. Ends g.S.Source.left g.S.Source.still g.S.Source.read_faults (λ p. None) c.args.taker.now c.take.new.self w)
    (ap (λ p. take_cause p c.in-Err.fault) (sym c.place-at.ensures.place) ∙ sym c.fault_at.ensures)
    (nothing_ends g.S.Source.left g.S.Source.still g.S.Source.read_faults c.args.taker.now c.take.new.self c.in-Err.fault c.requires (subst (λ p. p ≤ 2 ^ 26) c.place-at.ensures.place c.place-at.ensures.bound)
    (subst (λ n. Misses g.S.Source.left g.S.Source.still g.S.Source.read_faults c.args.taker.now (need_fault (place_of c.args.taker.now) n) (asked_at (place_of c.args.taker.now) n) c.take.new.self c.in-Err.fault) c.take.auto.buf c.in-Err.ensures.err))
