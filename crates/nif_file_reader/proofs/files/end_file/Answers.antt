use Rattle.nif_file_reader.proofs.EndLaws.{trailing_halts}
use Rattle.nif_file_reader.proofs.files.end_file.Goals as goal

pub returns-in-Ok-false-clause-err : goal.returns-in-Ok-false-clause-err
returns-in-Ok-false-clause-err g c = λ nodes.
    trailing_halts g.S.Source.left g.S.Source.still g.S.Source.read_faults nodes c.args.taker.now c.at_end.new.self c.in-Ok-false.field-0 c.place-at.result c.in-Ok-false.ensures.ok c.in-Ok-false.ensures.answer c.in-Ok-false.field-0-test c.place-at.ensures.place
