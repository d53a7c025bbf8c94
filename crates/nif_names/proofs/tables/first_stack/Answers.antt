use Rattle.std.proofs.Common.{subst}
use Rattle.nif_names.specs.Marks.{IsFound}
use Rattle.nif_names.specs.Shapes.{Stack}
use Rattle.nif_names.proofs.MarkLemmas.{none-found}
use Rattle.nif_names.proofs.tables.first_stack.Goals as goal

pub returns-in-Ok-clause-marks : goal.returns-in-Ok-clause-marks
returns-in-Ok-clause-marks c = λ key ts stop is.
    none-found key ts stop (subst (λ (s : Stack). IsFound s.kinds key ts stop) c.new-stack.ensures (c.in-Ok.ensures.marks key ts stop is))
