use Rattle.nif_value.proofs.Live.{some_live, there}
use Rattle.nif_value.proofs.stores.Store.bytes_of.Goals as goal

pub count_bytes-requires-clause-live : goal.count_bytes-requires-clause-live
count_bytes-requires-clause-live c = some_live c.self.inside.region.runs c.args.tree.run.key (rw (← c.self.view_is) at c.requires)

pub count_bytes-requires-clause-tree : goal.count_bytes-requires-clause-tree
count_bytes-requires-clause-tree c = c.self.invariant.trees c.args.tree.run.key

pub returns : goal.returns
returns c =
    let t = there c.self.inside.region.runs c.args.tree.run.key c.self.invariant.trees (rw (← c.self.view_is) at c.requires) in
    rw (← c.self.view_is, t.node_found) (rw t.found at c.count_bytes.ensures)
