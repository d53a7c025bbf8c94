use Rattle.nif_file_reader.proofs.Graphs.{graph_got}
use Rattle.nif_file_reader.proofs.files.read_graph.Goals as goal

pub graph_of-requires : goal.graph_of-requires
graph_of-requires g c =
    let parts = c.in-Ok.ensures.parts in
    (parts.file, (parts.says, parts.is, parts.holds))

pub returns-in-Ok-clause-file : goal.returns-in-Ok-clause-file
returns-in-Ok-clause-file g c =
    graph_got g.S.Source.left g.S.Source.read_faults c.args.checked.now c.args.taker.now c.read_parts.new.taker c.in-Ok.parts
    c.in-Ok.ensures.parts c.graph_of.result c.graph_of.ensures.ok c.graph_of.ensures.err
