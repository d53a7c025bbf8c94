use Rattle.nif_schema.specs.Uses.{takes_template}
use Rattle.std.proofs.lemmas.Grind.{common_steps}
use Rattle.std.proofs.Common.{arith}
use Rattle.nif_uses.proofs.templates.takes_template.Goals as goal

pub returns-then-is_own_template : goal.returns-then-is_own_template
unfolding takes_template
returns-then-is_own_template c = grind (arith, common_steps)

pub returns-in-Some : goal.returns-in-Some
unfolding takes_template
returns-in-Some c = grind (arith, common_steps)

pub returns-in-None : goal.returns-in-None
unfolding takes_template
returns-in-None c = grind (arith, common_steps)
