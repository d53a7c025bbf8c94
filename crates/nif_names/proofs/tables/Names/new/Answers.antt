use Rattle.std.proofs.Common.{ℕ, List, ap, subst}
use Rattle.nif_names.specs.Marks.{IsFound}
use Rattle.nif_names.specs.Tables.{held, kinds, stack_of}
use Rattle.nif_names.proofs.MarkLemmas.{none-found}
use Rattle.nif_names.proofs.tables.Names.new.Goals as goal

pub returns-clause-shapes : goal.returns-clause-shapes
unfolding held
returns-clause-shapes c = λ name. ap (λ (ks : List (List ℕ)). (stack_of name ks c.new-2.result.items).shapes) c.new.ensures

pub returns-clause-marks : goal.returns-clause-marks
unfolding kinds
returns-clause-marks c = λ name key ts stop is.
    none-found key ts stop (subst (λ (ks : List (List ℕ)). IsFound (stack_of name ks c.new-2.result.items).kinds key ts stop) c.new.ensures is)
