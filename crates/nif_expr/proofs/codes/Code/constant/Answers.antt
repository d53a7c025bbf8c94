use Rattle.std.proofs.Common.{◌∙◌}
use Rattle.nif_expr.proofs.ConstantLemmas.{none_read, ran_constant}
use Rattle.nif_expr.proofs.codes.Code.constant.Goals as goal

pub returns-clause-some : goal.returns-clause-some
returns-clause-some c =
    let same = c.as_slice-word-items.ensures.value ∙ c.self.view_is in
    let none = none_read c.args.self.now _ _ same c.loop-word-test.false c.loop-word.invariant in
    ran_constant c.args.self.now _ _ _ none c.run.ensures
