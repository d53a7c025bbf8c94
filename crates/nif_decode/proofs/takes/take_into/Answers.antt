use Rattle.std.proofs.Common.{◌≡◌, length, sym, ◌∙◌, ap, subst, arith}
use Rattle.nif_base.specs.Node.{number}
use Rattle.nif_stream.specs.Taking.{Takes, Misses, need_fault, asked_at, place_of}
use Rattle.nif_layout.specs.LeafFault.{shortage}
use Rattle.nif_decode.specs.Faults.{take_cause}
use Rattle.nif_decode.specs.Answers.{Ends}
use Rattle.nif_decode.proofs.Ending.{take_ends}
use Rattle.nif_decode.proofs.takes.take_into.Goals as goal

pub returns-in-Ok-clause-ok : goal.returns-in-Ok-clause-ok
returns-in-Ok-clause-ok g c =
    let len : length c.take.new.buf ≡ length c.args.bytes.now = omega (arith, c.take.auto.buf) in
    let same = ap (λ k. number c.args.little k c.number_at.result) (sym len) ∙ c.number_at.ensures.spelled in
    subst (λ s. Takes g.S.Source.left g.S.Source.still g.S.Source.read_faults c.args.taker.now s c.take.new.self) (sym same) c.in-Ok.ensures.ok

pub returns-in-Err-clause-err : goal.returns-in-Err-clause-err
returns-in-Err-clause-err g c =
    let len : length c.take.new.buf ≡ length c.args.bytes.now = omega (arith, c.take.auto.buf) in
    let m = c.in-Err.ensures.err in
    let e = take_ends g.S.Source.left g.S.Source.still g.S.Source.read_faults c.args.taker.now c.take.new.self c.in-Err.fault (length c.args.bytes.now) c.requires.ready
    (subst (λ k. Misses g.S.Source.left g.S.Source.still g.S.Source.read_faults c.args.taker.now (need_fault (place_of c.args.taker.now) k) (asked_at (place_of c.args.taker.now) k) c.take.new.self c.in-Err.fault) len m) in
    subst (λ w. Ends g.S.Source.left g.S.Source.still g.S.Source.read_faults (shortage (length c.args.bytes.now)) c.args.taker.now c.take.new.self w)
    (ap (λ p. take_cause p c.in-Err.fault) (sym c.place-at.ensures.place) ∙ sym c.fault_at.ensures) e
