use Rattle.nif_decode.specs.Answers.{Stand, stand}
use Rattle.nif_decode.proofs.LineSteps.{line_refused}
use Rattle.nif_decode.proofs.first_line.decode_line.Goals as goal

pub returns-in-Err-clause-answers : goal.returns-in-Err-clause-answers
returns-in-Err-clause-answers g c =
    let old : Stand g.row.S.Denot = stand c.args.taker.now c.args.bounds.now.nodes c.args.store.now c.scope.inside.entries.items in
    let new : Stand g.row.S.Denot = stand c.read_first_line.new.taker c.read_first_line.new.nodes c.read_first_line.new.store c.read_first_line.new.told.items in
    line_refused g.S.Source.left g.S.Source.still g.S.Source.read_faults old new c.abandon.new.self.building c.in-Err.fault c.in-Err.ensures.answers c.abandon.ensures.building
