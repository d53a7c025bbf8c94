use Rattle.std.proofs.Common.{subst}
use Rattle.nif_schema.specs.Schema.{IsSchema}
use Rattle.nif_file_reader.proofs.Graphs.{are_parts, graph_read}
use Rattle.nif_file_reader.proofs.files.graph_of.Goals as goal

pub from_parts-requires : goal.from_parts-requires
from_parts-requires c =
    let S = c.args.checked.now in
    let same = c.schema-schema.ensures.same in
    let schema = subst IsSchema same c.count-declarations.ensures.schema in
    let roles = c.schema-schema.ensures.roles in
    are_parts S (c.graph_of_file.ensures.again S schema roles) (c.graph_of_file.ensures.aimed S) (c.graph_of_file.ensures.indexed S)
    c.args.parts c.requires.0 c.requires.1

pub returns-in-Ok-clause-ok : goal.returns-in-Ok-clause-ok
returns-in-Ok-clause-ok c = λ F read.
    let S = c.args.checked.now in
    let same = c.schema-schema.ensures.same in
    let schema = subst IsSchema same c.count-declarations.ensures.schema in
    let roles = c.schema-schema.ensures.roles in
    graph_read S (c.graph_of_file.ensures.again S schema roles) (c.graph_of_file.ensures.aimed S) (c.graph_of_file.ensures.indexed S)
    c.args.parts F read c.in-Ok.graph c.in-Ok.ensures.graph c.in-Ok.ensures.places c.in-Ok.ensures.bytes
