use Rattle.nif_schema.proofs.Numbering.{AreNumbered-none}
use Rattle.nif_schema.proofs.schemas.Schema.new.Goals as goal

pub invariant_of-result : goal.invariant_of-result
invariant_of-result c = AreNumbered-none _ _ c.new.ensures.items c.new-2.ensures.empty
