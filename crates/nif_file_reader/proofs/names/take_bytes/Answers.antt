use Rattle.std.proofs.Common.{◌≡◌, ◌+◌, ◌≤◌, List, ℕ, ◌++◌, length, length-append, length-take, refl, sym, ◌∙◌, ap, subst, arith}
use Rattle.nif_stream.specs.Taking.{Takes}
use Rattle.nif_stream.specs.TakerLaws.{takes_joined}
use Rattle.nif_layout.specs.LeafFault.{shortage}
use Rattle.nif_decode.specs.Answers.{Ends}
use Rattle.nif_decode.specs.Faults.{take_cause}
use Rattle.nif_decode.specs.PieceLaws.{piece_ends}
use Rattle.nif_decode.specs.WentLaws.{went_whole}
use Rattle.nif_file_reader.proofs.Going.{takes_none}
use Rattle.nif_file_reader.proofs.names.take_bytes.Goals as goal

pub loop-left-init : goal.loop-left-init
loop-left-init g c = record {
  long = let none : length c.new-bytes.result.items ≡ 0 = ap length c.new-bytes.ensures.items in omega arith;
  takes = subst (λ (b : List ℕ). Takes g.S.Source.left g.S.Source.still g.S.Source.read_faults c.args.taker.now b c.args.taker.now) (sym c.new-bytes.ensures.items) (takes_none g.S.Source.left g.S.Source.still g.S.Source.read_faults c.args.taker.now c.requires);
}

pub returns-in-Err-clause-err : goal.returns-in-Err-clause-err
returns-in-Err-clause-err g c = λ start front t at.
    let s = c.loop-left.invariant in
    let read = c.loop-left.bytes.items in
    let all = takes_joined g.S.Source.left g.S.Source.still g.S.Source.read_faults start c.args.taker.now c.loop-left.taker front read (front ++ read) t s.takes refl in
    let len : length c.take.new.buf ≡ c.min-length.result = grind (arith, c.take.auto.buf, length-take, c.min-length.ensures) in
    let fits : length (front ++ read) + length c.take.new.buf ≤ length front + c.args.count = omega (arith, length-append front read, s.long, len, c.min-length.ensures) in
    subst (λ w. Ends g.S.Source.left g.S.Source.still g.S.Source.read_faults (shortage (length front + c.args.count)) start c.take.new.self w) (ap (λ p. take_cause p c.in-Err.fault) at ∙ sym c.fault_at.ensures)
    (piece_ends g.S.Source.left g.S.Source.still g.S.Source.read_faults start c.loop-left.taker c.take.new.self (front ++ read) (length c.take.new.buf) (length front + c.args.count) c.in-Err.fault all fits c.in-Err.ensures.err)

pub returns-in-Err-extend_from_slice-clause-err : goal.returns-in-Err-extend_from_slice-clause-err
returns-in-Err-extend_from_slice-clause-err g c = λ start front t at.
    let s = c.loop-left.invariant in
    let read = c.loop-left.bytes.items in
    let all = takes_joined g.S.Source.left g.S.Source.still g.S.Source.read_faults start c.args.taker.now c.loop-left.taker front read (front ++ read) t s.takes refl in
    let more = takes_joined g.S.Source.left g.S.Source.still g.S.Source.read_faults start c.loop-left.taker c.take.new.self (front ++ read) c.take.new.buf ((front ++ read) ++ c.take.new.buf) all c.in-Ok.ensures.ok refl in
    record { went = went_whole g.S.Source.left g.S.Source.still g.S.Source.read_faults start c.take.new.self ((front ++ read) ++ c.take.new.buf) more; stops = λ n b told. tt }

pub loop-left-preserved : goal.loop-left-preserved
loop-left-preserved g c =
    let s = c.loop-left.invariant in
    let read = c.loop-left.bytes.items in
    let items : c.extend_from_slice.new.self.items ≡ read ++ c.take.new.buf = c.in-Ok-extend_from_slice.ensures.items in
    let len : length c.take.new.buf ≡ c.min-length.result = grind (arith, c.take.auto.buf, length-take, c.min-length.ensures) in
    let long : length c.extend_from_slice.new.self.items ≡ length read + length c.take.new.buf = ap length items ∙ length-append read c.take.new.buf in
    record {
      long = omega (arith, long, len, s.long, c.min-length.ensures);
      takes = takes_joined g.S.Source.left g.S.Source.still g.S.Source.read_faults c.args.taker.now c.loop-left.taker c.take.new.self read c.take.new.buf c.extend_from_slice.new.self.items s.takes c.in-Ok.ensures.ok (sym items);
    }
