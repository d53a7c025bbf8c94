use Rattle.nif_schema.specs.Expression.{tree}
use Rattle.nif_expr.proofs.FirstLemmas.{number_some, number_none}
use Rattle.nif_expr.proofs.parts.first_number.Goals as goal

pub returns-in-Some : goal.returns-in-Some
returns-in-Some c =
    number_some c.args.text.now c.split.result.0.now c.split.result.1.now c.in-Some.value (tree c.constant.result) c.constant.ensures
    c.requires c.split.ensures.front c.split.ensures.after c.in-Some.ensures

pub returns-in-None : goal.returns-in-None
returns-in-None c = number_none c.args.text.now c.split.result.0.now c.requires c.split.ensures.front c.in-None.ensures
