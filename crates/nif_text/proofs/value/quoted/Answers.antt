use Rattle.std.proofs.Common.{refl}
use Rattle.nif_text.proofs.Values.{quoted_never}
use Rattle.nif_text.proofs.value.quoted.Goals as goal

pub returns-then-not-eat-clause-value : goal.returns-then-not-eat-clause-value
returns-then-not-eat-clause-value c =
    let run = c.in_ok-value_parts.ensures.run in
    quoted_never c.args.quote c.requires run.0 c.args.text.now c.value_parts.new.text run.1 (c.if-not-eat.ensures.no refl)
