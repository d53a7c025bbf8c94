use Rattle.nif_read.proofs.Walk.{refused}
use Rattle.nif_read.proofs.reading.read_schema.Goals as goal

pub returns-in-Ok-clause-fault : goal.returns-in-Ok-clause-fault
returns-in-Ok-clause-fault c = refused c.args.bytes.now c.in-Ok.root c.schema_of.result c.in-Ok.ensures.tree c.schema_of.ensures.err
