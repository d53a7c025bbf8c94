use Rattle.std.proofs.Common.{◌≡◌, ◌+◌, [], arith}
use Rattle.nif_stream.specs.declared.takers.TakeFault.TheVariants.{Ended, TooLong}
use Rattle.nif_stream.specs.Taking.{ahead_of, place_of, need_fault, left_of, source_of, bytes_of}
use Rattle.nif_stream.proofs.Gives.{misses_fail, end_told, long_told}
use Rattle.nif_stream.proofs.takers.Taker.ready.Goals as goal

pub returns-then-not-branch-clause-err : goal.returns-then-not-branch-clause-err
returns-then-not-branch-clause-err g c =
    let place = place_of c.args.self.now + c.args.done in
    let none : ahead_of c.hold.new.self ≡ 0 = grind (arith, c.in_ok-hold.ensures.some) in
    rw c.fail.ensures.fault
    (misses_fail g.S.Source.left g.S.Source.still g.S.Source.read_faults c.args.self.now c.hold.new.self c.fail.new.self [] (need_fault place 1) 0 Ended c.in_ok-hold.ensures.ok c.fail.ensures.stays (λ e. cc) (omega arith)
    (end_told (left_of g.S.Source.left c.hold.new.self) place (c.in_ok-hold.ensures.end none) c.requires.within))

pub returns-then-self-done-ge-MOST_FILE_BYTES-clause-err : goal.returns-then-self-done-ge-MOST_FILE_BYTES-clause-err
returns-then-self-done-ge-MOST_FILE_BYTES-clause-err g c =
    let place = place_of c.args.self.now + c.args.done in
    let fail = c.fail-then-self-done-ge-MOST_FILE_BYTES in
    rw fail.ensures.fault
    (misses_fail g.S.Source.left g.S.Source.still g.S.Source.read_faults c.args.self.now c.hold.new.self fail.new.self [] (need_fault place 1) 0 TooLong c.in_ok-hold.ensures.ok fail.ensures.stays (λ e. cc) (omega arith)
    (long_told (g.S.Source.left (source_of c.hold.new.self)) (bytes_of c.hold.new.self.held) place (c.in_ok-hold.ensures.some.0 c.if-not-branch.false) (omega (arith, c.in_ok-hold.ensures.ok.place))))
