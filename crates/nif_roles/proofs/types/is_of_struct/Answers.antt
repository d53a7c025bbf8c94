use Rattle.std.proofs.Common.{arith}
use Rattle.std.proofs.lemmas.Grind.{common_steps}
use Rattle.nif_schema.specs.Roles.{is_of_struct}
use Rattle.nif_roles.proofs.types.is_of_struct.Goals as goal

pub returns-then-eq : goal.returns-then-eq
unfolding is_of_struct
returns-then-eq c = grind (arith, common_steps)

pub returns-else-eq : goal.returns-else-eq
unfolding is_of_struct
returns-else-eq c = grind (arith, common_steps)
