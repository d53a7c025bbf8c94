use Rattle.std.proofs.Common.{ap, ◌∙◌, sym, subst}
use Rattle.nif_cells.specs.Reading.{said, met_in, tree_in}
use Rattle.nif_cells.specs.CellLaws.{met-tree}
use Rattle.nif_value.specs.Kept.{IsTree, cells_in}
use Rattle.nif_value.proofs.Live.{some_live, there}
use Rattle.nif_value.proofs.stores.Store.walk.Goals as goal

pub new-requires-clause-live : goal.new-requires-clause-live
new-requires-clause-live c = some_live c.self.inside.region.runs c.args.tree.run.key (rw (← c.self.view_is) at c.requires)

pub new-requires-clause-tree : goal.new-requires-clause-tree
new-requires-clause-tree c =
    let t = there c.self.inside.region.runs c.args.tree.run.key c.self.invariant.trees (rw (← c.self.view_is) at c.requires) in
    subst (λ o. IsTree (cells_in o)) (sym t.found) t.tree

pub returns-clause-ahead : goal.returns-clause-ahead
returns-clause-ahead c =
    let t = there c.self.inside.region.runs c.args.tree.run.key c.self.invariant.trees (rw (← c.self.view_is) at c.requires) in
    rw (← c.self.view_is, t.node_found) (c.new.ensures.ahead ∙ ap (λ o. met_in (said (cells_in o))) t.found ∙ ap met_in t.tree.says ∙ met-tree (tree_in t.cells) t.tree.has_bytes)
