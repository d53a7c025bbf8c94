use Rattle.std.proofs.Common.{refl, None}
use Rattle.nif_stream.proofs.Gives.{reads_none, reads_fill, misses_read}
use Rattle.nif_stream.proofs.takers.Taker.hold.Goals as goal

pub returns-then-not-is_empty-clause-ok : goal.returns-then-not-is_empty-clause-ok
returns-then-not-is_empty-clause-ok g c = reads_none g.S.Source.left g.S.Source.still g.S.Source.read_faults c.args.self.now c.requires

pub returns-in-Ok-clause-ok : goal.returns-in-Ok-clause-ok
returns-in-Ok-clause-ok g c =
    reads_fill g.S.Source.left g.S.Source.still g.met.S.Source.still_joined g.S.Source.read_faults c.args.self.now _ (c.if-not-is_empty.ensures.0 refl)
    c.in-Ok.ensures.bytes c.in-Ok.ensures.still c.in-Ok.ensures.cause.later refl c.requires refl

pub returns-in-Err-clause-err : goal.returns-in-Err-clause-err
returns-in-Err-clause-err g c =
    rw (c.fail.ensures.fault, c.fail.ensures.stays)
    (misses_read g.S.Source.left g.S.Source.still g.met.S.Source.still_joined g.S.Source.read_faults c.args.self.now _ (λ _. None) (c.if-not-is_empty.ensures.0 refl)
    c.in-Err.ensures.err c.in-Err.ensures.bytes c.in-Err.ensures.still c.in-Err.ensures.cause.later c.in-Err.ensures.cause.failed refl refl refl)
