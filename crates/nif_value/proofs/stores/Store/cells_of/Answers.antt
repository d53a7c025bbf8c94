use Rattle.std.proofs.Common.{◌≡◌, ◌+◌, length, arith, ap, ◌∙◌}
use Rattle.nif_value.proofs.Live.{some_live, there, IsThere, cells-count, cells-few, cells-within}
use Rattle.nif_value.proofs.stores.Store.cells_of.Goals as goal

pub len-requires : goal.len-requires
len-requires c = some_live c.self.inside.region.runs c.args.tree.run.key (rw (← c.self.view_is) at c.requires)

here : (c : goal.After-len) → IsThere c.self.inside.region.runs c.args.tree.run.key
here c = there _ _ c.self.invariant.trees (rw (← c.self.view_is) at c.requires)

len_is : (c : goal.After-len) → c.len.result ≡ length (here c).cells
len_is c = rw (here c).found at c.len.ensures

pub overflow_add-result : goal.overflow_add-result
overflow_add-result c = let e = len_is c in let f = cells-few (here c).cells (here c).tree in omega arith

pub returns-clause-value : goal.returns-clause-value
returns-clause-value c = rw (← c.self.view_is, (here c).node_found) (ap (λ n. n + 1) (len_is c ∙ cells-count (here c).cells (here c).tree))

pub returns-clause-bound : goal.returns-clause-bound
returns-clause-bound c =
    let e = len_is c in
    let b = cells-within (here c).cells (here c).tree in
    rw (← c.self.view_is, (here c).node_found) (omega arith)
