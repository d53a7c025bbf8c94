use Rattle.std.proofs.Common.{◌==◌, ◌++◌, Contains, subst, ◌↔◌}
use Rattle.std.proofs.lemmas.Bool.Decides.{Decides-eqb}
use Rattle.std.proofs.lemmas.List.{take_all}
use Rattle.nif_sets.proofs.EqualLemmas.{keys-more}
use Rattle.nif_sets.proofs.meanings.add_types.Goals as goal

pub loop-number-preserved : goal.loop-number-preserved
loop-number-preserved c =
    keys-more (λ x y. x == y) (λ x y. (Decides-eqb x y).0) c.args.to.now.keys c.loop-number.to.keys c.insert.new.self.keys c.args.types.now c.loop-number.number-index 0 c.loop-number-test.true
    c.loop-number.invariant c.in-Ok.ensures.keys

pub returns : goal.returns
returns c = λ number.
    subst (λ l. Contains c.loop-number.to.keys number ↔ Contains (c.args.to.now.keys ++ l) number) (take_all c.loop-number.number-index c.args.types.now c.loop-number-test.false)
    (c.loop-number.invariant number)
