use Rattle.std.proofs.Common.{◌≡◌, ◌≢◌, ◌+◌, ◌^◌, ◌<◌, ◌≤◌, length-set, [], ◌∷◌, ◌++◌, take, length, length-take, length-append, refl, ap, sym, subst, ◌∙◌, arith}
use Rattle.std.specs.Prelude.{All}
use Rattle.std.proofs.lemmas.Result.{err_from_is_err_and}
use Rattle.std.proofs.lemmas.List.{take_more_set}
use Rattle.std.proofs.lemmas.List.Elements.{All-push}
use Rattle.nif_stream.specs.declared.takers.TakeFault.TheVariants.{LineTooLong}
use Rattle.nif_stream.specs.Taking.{left_of, place_of, line_fault, asked_at}
use Rattle.nif_stream.proofs.Gives.{misses_again, misses_fail, reads_none, reads_joined, takes_passed}
use Rattle.nif_stream.proofs.Lines.{misses_line, long_line_told}
use Rattle.nif_stream.proofs.takers.Taker.line.Goals as goal

pub returns-in-Some-clause-err : goal.returns-in-Some-clause-err
returns-in-Some-clause-err g c = misses_again g.S.Source.left g.S.Source.still g.S.Source.read_faults c.args.self.now _ _ c.in-Some.fault c.in-Some.is

pub loop-length-init : goal.loop-length-init
loop-length-init g c = record {
  size = c.told-into;
  room = omega (arith, c.args.self.now.place.within);
  line = λ k d h. absurd (omega arith);
  reads = reads_none g.S.Source.left g.S.Source.still g.S.Source.read_faults c.args.self.now c.in_default.is;
}

pub returns-in_err-byte-clause-err : goal.returns-in_err-byte-clause-err
returns-in_err-byte-clause-err g c =
    let p = err_from_is_err_and c.from_residual.result c.from_residual.ensures.1 in
    let l = c.loop-length in
    rw (p.1, p.2)
    (misses_line g.S.Source.left g.S.Source.still g.S.Source.read_faults c.args.self.now l.self c.byte.new.self (take l.length l.into) l.length _ l.invariant.reads
    (length-take l.length l.into ∙ omega (arith, l.invariant.size)) (omega arith) l.invariant.line l.invariant.room c.in_err-byte.ensures.err)

pub returns-then-byte-eq10-clause-ok : goal.returns-then-byte-eq10-clause-ok
returns-then-byte-eq10-clause-ok g c =
    let l = c.loop-length in
    let front = take l.length l.into in
    takes_passed g.S.Source.left g.S.Source.still g.S.Source.read_faults c.args.self.now c.byte.new.self c.pass.new.self (front ++ c.in_ok-byte.byte ∷ []) (front ++ 10 ∷ []) (l.length + 1)
    (reads_joined g.S.Source.left g.S.Source.still g.S.Source.read_faults c.args.self.now l.self c.byte.new.self front (c.in_ok-byte.byte ∷ []) _ l.invariant.reads c.in_ok-byte.ensures.ok refl)
    (ap (λ b. front ++ b ∷ []) c.if-byte-eq10.true) c.pass.ensures.place (omega (arith, l.invariant.size, length-append front (10 ∷ []), length-take l.length l.into)) c.pass.ensures.source c.pass.ensures.held c.pass.ensures.fault

pub loop-length-preserved : goal.loop-length-preserved
loop-length-preserved g c =
    let l = c.loop-length in
    let byte = c.in_ok-byte.byte in
    let short : l.length < length l.into = omega (arith, l.invariant.size) in
    let more = take_more_set l.into l.length byte short in
    record {
      size = length-set l.into l.length byte ∙ l.invariant.size;
      room = omega (arith, c.in_ok-byte.ensures.room, c.in_ok-byte.ensures.ok.place);
      line = rw more (All-push (λ c. c ≢ 10) (take l.length l.into) byte l.invariant.line c.if-byte-eq10.false);
      reads = reads_joined g.S.Source.left g.S.Source.still g.S.Source.read_faults c.args.self.now l.self c.byte.new.self (take l.length l.into) (byte ∷ []) _ l.invariant.reads c.in_ok-byte.ensures.ok (sym more);
    }

pub returns-in_err-byte-2-clause-err : goal.returns-in_err-byte-2-clause-err
returns-in_err-byte-2-clause-err g c =
    let p = err_from_is_err_and c.from_residual-in_err-byte-2.result c.from_residual-in_err-byte-2.ensures.1 in
    let l = c.loop-length in
    rw (p.1, p.2)
    (misses_line g.S.Source.left g.S.Source.still g.S.Source.read_faults c.args.self.now l.self c.byte-2.new.self (take l.length l.into) 255 _ l.invariant.reads
    (length-take l.length l.into ∙ omega (arith, l.invariant.size)) (omega arith) l.invariant.line (omega (arith, l.invariant.room)) c.in_err-byte-2.ensures.err)

pub returns-then-branch-eq10-clause-ok : goal.returns-then-branch-eq10-clause-ok
returns-then-branch-eq10-clause-ok g c =
    let l = c.loop-length in
    let byte = c.in_ok-byte-2.field-0 in
    let pass = c.pass-then-branch-eq10 in
    let whole : l.length ≡ 255 = omega arith in
    takes_passed g.S.Source.left g.S.Source.still g.S.Source.read_faults c.args.self.now c.byte-2.new.self pass.new.self (take l.length l.into ++ byte ∷ []) (take 255 l.into ++ 10 ∷ []) 256
    (reads_joined g.S.Source.left g.S.Source.still g.S.Source.read_faults c.args.self.now l.self c.byte-2.new.self (take l.length l.into) (byte ∷ []) _ l.invariant.reads c.in_ok-byte-2.ensures.ok refl)
    (ap (λ n. take n l.into ++ byte ∷ []) whole ∙ ap (λ b. take 255 l.into ++ b ∷ []) c.if-branch-eq10.true) pass.ensures.place (omega (arith, l.invariant.size, length-append (take 255 l.into) (10 ∷ []), length-take 255 l.into))
    pass.ensures.source pass.ensures.held pass.ensures.fault

pub returns-clause-err : goal.returns-clause-err
returns-clause-err g c =
    let l = c.loop-length in
    let byte = c.in_ok-byte-2.field-0 in
    let front = take l.length l.into in
    let place = place_of c.args.self.now in
    let long : length (front ++ byte ∷ []) ≡ 256 = omega (arith, l.invariant.size, length-append front (byte ∷ []), length-take l.length l.into) in
    let room : place + 256 ≤ 2 ^ 26 = omega (arith, c.in_ok-byte-2.ensures.room, l.invariant.reads.place) in
    rw c.fail.ensures.fault
    (misses_fail g.S.Source.left g.S.Source.still g.S.Source.read_faults c.args.self.now c.byte-2.new.self c.fail.new.self (front ++ byte ∷ []) (line_fault place) (asked_at place 256) LineTooLong
    (reads_joined g.S.Source.left g.S.Source.still g.S.Source.read_faults c.args.self.now l.self c.byte-2.new.self front (byte ∷ []) _ l.invariant.reads c.in_ok-byte-2.ensures.ok refl)
    c.fail.ensures.stays (λ e. cc) (omega (arith, long, room))
    (long_line_told (left_of g.S.Source.left c.byte-2.new.self) place (front ++ byte ∷ []) long (All-push (λ c. c ≢ 10) front byte l.invariant.line c.if-branch-eq10.false) room))

pub returns-then-branch-eq10-clause-one_line : goal.returns-then-branch-eq10-clause-one_line
returns-then-branch-eq10-clause-one_line g c =
    let l = c.loop-length in
    let whole : l.length ≡ 255 = omega arith in
    subst (λ n. All (λ c. c ≢ 10) (take n l.into)) whole l.invariant.line
