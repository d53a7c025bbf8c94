use Rattle.nif_schema.specs.Expression.{tree}
use Rattle.nif_expr.proofs.FirstLemmas.{path_some, path_none}
use Rattle.nif_expr.proofs.parts.first_path.Goals as goal

pub returns-in-Ok-Some : goal.returns-in-Ok-Some
returns-in-Ok-Some c =
    path_some c.args.text.now c.in-Ok-Some.rest.now c.in-Ok-Some.path (tree c.operand.result) c.operand.ensures
    (rw c.in-Ok-Some.field-0-is at c.in-Ok-Some.ensures)

pub returns-in-Ok-None : goal.returns-in-Ok-None
returns-in-Ok-None c = path_none c.args.text.now c.requires.letter (rw c.in-Ok-None.field-0-is at c.in-Ok-None.ensures)
