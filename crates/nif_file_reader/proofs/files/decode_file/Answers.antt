use Rattle.std.proofs.Common.{◌∙◌, arith}
use Rattle.nif_stream.specs.TakerLaws.{still_kept}
use Rattle.nif_file_reader.proofs.files.decode_file.Goals as goal

pub returns-clause-still : goal.returns-clause-still
returns-clause-still g c =
    let went = c.read_graph.ensures.went in
    let kept = still_kept g.S.Source.still c.args.source.now c.new-taker.result c.read_graph.new.taker c.new-taker.ensures.still went.keeps in
    let same = went.same_reference ∙ c.new-taker.ensures.same_reference in
    grind arith
