use Rattle.nif_region.specs.Contents.{find}
use Rattle.nif_lists.proofs.ListLaws.{read_lists_of}
use Rattle.nif_lists.proofs.reading.read_lists.Goals as goal

pub returns : goal.returns
returns c =
    read_lists_of c.args.schema.now c.args.places.now (find c.args.store.now.trees c.args.header.run.key) c.gather.result
    c.count-declarations.ensures.schema c.requires.roles c.requires.places c.requires.header c.gather.ensures
