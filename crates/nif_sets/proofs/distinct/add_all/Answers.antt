use Rattle.std.proofs.Common.{◌++◌, Contains, subst, ◌↔◌}
use Rattle.std.proofs.lemmas.List.{take_all}
use Rattle.nif_sets.specs.contracts.sets.TypeSetPartialEq.TheImpl.{eq-value}
use Rattle.nif_sets.specs.declared.sets.TypeSet.TheVariants.{One}
use Rattle.nif_sets.proofs.EqualLemmas.{same_set, keys-more}
use Rattle.nif_sets.proofs.distinct.add_all.Goals as goal

pub loop-set-preserved : goal.loop-set-preserved
loop-set-preserved c =
    keys-more eq-value.it same_set c.args.to.now.keys c.loop-set.to.keys c.insert.new.self.keys c.args.sets.now c.loop-set.set-index (One 0) c.loop-set-test.true c.loop-set.invariant c.in-Ok.ensures.keys

pub returns : goal.returns
returns c = λ set.
    subst (λ l. Contains c.loop-set.to.keys set ↔ Contains (c.args.to.now.keys ++ l) set) (take_all c.loop-set.set-index c.args.sets.now c.loop-set-test.false) (c.loop-set.invariant set)
