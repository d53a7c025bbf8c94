use Rattle.std.proofs.Common.{arith}
use Rattle.std.proofs.lemmas.Grind.{common_steps}
use Rattle.nif_schema.specs.Roles.{is_of_byte}
use Rattle.nif_roles.proofs.types.is_of_byte.Goals as goal

pub returns-in-Some : goal.returns-in-Some
unfolding is_of_byte
returns-in-Some c = grind (arith, common_steps)

pub returns-in-None : goal.returns-in-None
unfolding is_of_byte
returns-in-None c = grind (arith, common_steps)
