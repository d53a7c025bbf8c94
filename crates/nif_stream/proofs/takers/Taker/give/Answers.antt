use Rattle.std.proofs.Common.{◌≤◌, length, sym, refl, arith}
use Rattle.std.proofs.lemmas.List.{take-append-le}
use Rattle.nif_stream.proofs.Gives.{reads_give}
use Rattle.nif_stream.proofs.takers.Taker.give.Goals as goal

pub returns-clause-ok : goal.returns-clause-ok
returns-clause-ok g c =
    let within : c.give.result ≤ length c.give.new.part = omega (arith, c.give.ensures.count) in
    reads_give g.S.Source.left g.S.Source.still g.S.Source.read_faults c.args.self.now c.ready.new.self _ _ _ c.in_ok-ready.ensures.ok c.give.ensures.bytes (sym (take-append-le c.give.result c.give.new.part _ within)) refl refl refl
