use Rattle.std.proofs.Common.{subst, sym}
use Rattle.nif_reasons.specs.Ways.{IsAt}
use Rattle.nif_reasons.proofs.own.all_reasons.Goals as goal

pub reasons_along-requires-clause-at : goal.reasons_along-requires-clause-at
reasons_along-requires-clause-at c =
    let S = c.args.schema.now in
    subst (λ l. IsAt S l c.new-2.result) (sym c.new.ensures.items) (record { way = tt; line = c.new-2.ensures S })
