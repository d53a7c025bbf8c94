use Rattle.std.proofs.Common.{None}
use Rattle.nif_stream.specs.Taking.{bytes_of, left_of, source_of}
use Rattle.nif_stream.proofs.Gives.{misses_again, end_answer}
use Rattle.nif_stream.proofs.takers.Taker.at_end.Goals as goal

pub returns-in-Some-clause-err : goal.returns-in-Some-clause-err
returns-in-Some-clause-err g c = misses_again g.S.Source.left g.S.Source.still g.S.Source.read_faults c.args.self.now (λ _. None) 0 c.in-Some.fault c.in-Some.is

pub returns-clause-answer : goal.returns-clause-answer
returns-clause-answer g c =
    let b = c.hold.new.self in
    end_answer (left_of g.S.Source.left c.args.self.now) (g.S.Source.left (source_of b)) (bytes_of b.held) c.in_ok-hold.field-0 c.in_ok-hold.ensures.ok.given c.in_ok-hold.ensures.some.0 c.in_ok-hold.ensures.some.1 c.in_ok-hold.ensures.end
