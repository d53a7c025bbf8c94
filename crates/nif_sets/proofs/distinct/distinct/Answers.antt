use Rattle.std.proofs.Common.{◌++◌, Contains, subst, ◌↔◌}
use Rattle.nif_sets.proofs.distinct.distinct.Goals as goal

pub returns-in-Ok : goal.returns-in-Ok
returns-in-Ok c = λ set.
    subst (λ l. Contains c.add_all.new.to.keys set ↔ Contains (l ++ c.args.sets.now) set) c.new-own.ensures.empty (c.in-Ok.ensures set)
