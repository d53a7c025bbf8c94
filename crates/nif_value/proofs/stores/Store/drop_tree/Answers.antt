use Rattle.nif_value.proofs.Live.{some_live, same_live, trees-without, find-trees}
use Rattle.nif_value.proofs.stores.Store.drop_tree.Goals as goal

pub give_back-requires : goal.give_back-requires
give_back-requires c = some_live c.self.inside.region.runs c.args.tree.run.key (rw (← c.self.view_is) at c.requires)

pub returns-clause-trees : goal.returns-clause-trees
returns-clause-trees c = rw (← c.self.view_is, c.give_back.ensures.runs) (trees-without c.self.inside.region.runs c.args.tree.run.key)

pub returns-clause-gone : goal.returns-clause-gone
returns-clause-gone c = rw (find-trees, c.give_back.ensures.gone)

pub returns-clause-others : goal.returns-clause-others
returns-clause-others c = rw (← c.self.view_is) (λ key ne. same_live _ _ key (c.give_back.ensures.others key ne))
