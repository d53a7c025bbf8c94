use Rattle.std.proofs.Common.{refl, arith, ap, Some}
use Rattle.nif_base.specs.Shelf.{desk_with}
use Rattle.nif_base.specs.ShelfView.{grew_none}
use Rattle.nif_base.proofs.mem_shelf.MemShelfSink.write.Goals as goal

pub returns-then-is_failing-clause-grew : goal.returns-then-is_failing-clause-grew
returns-then-is_failing-clause-grew c =
    grew_none _ _ refl refl refl refl (omega arith) (omega (arith, c.saturating_add-self.ensures)) (omega arith)

pub returns-in-Err-clause-grew : goal.returns-in-Err-clause-grew
returns-in-Err-clause-grew c =
    grew_none _ _ refl (desk_with _ c.in-Err.ensures.err c.in-Err.ensures.output) (ap Some c.in-Err.ensures.err_taken) refl
    (omega arith) (omega (arith, c.saturating_add-self-in-Err.ensures)) (omega arith)
