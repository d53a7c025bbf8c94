use Rattle.std.proofs.Common.{take, sym, subst}
use Rattle.std.proofs.lemmas.List.{take_more}
use Rattle.nif_sets.specs.Likes.{IsLike}
use Rattle.nif_sets.specs.declared.sets.TypeSet.TheVariants.{One}
use Rattle.nif_sets.proofs.sets.Sets.flattened.Goals as goal

pub loop-set-preserved : goal.loop-set-preserved
loop-set-preserved c =
    subst (λ l. IsLike c.args.self.now c.gather.new.flat.keys l) (sym (take_more c.args.sets.now c.loop-set.set-index (One 0) c.loop-set-test.true))
    (c.in-Ok-true.ensures c.in-Ok-true.field-0-test (take c.loop-set.set-index c.args.sets.now) c.loop-set.invariant)
