use Rattle.std.proofs.Common.{refl}
use Rattle.nif_text.proofs.Values.{assigned_never, read_assigned}
use Rattle.nif_text.proofs.value.assigned.Goals as goal

pub returns-then-not-eat-clause-value : goal.returns-then-not-eat-clause-value
returns-then-not-eat-clause-value c =
    let run = c.skip_blanks.ensures.run in
    assigned_never run.0 c.args.text.now c.skip_blanks.new.self run.1 (c.if-not-eat.ensures.no refl)

pub returns-clause-value : goal.returns-clause-value
returns-clause-value c =
    let run = c.skip_blanks.ensures.run in
    let again = c.skip_blanks-2.ensures.run in
    read_assigned c.value.result run.0 c.args.text.now c.skip_blanks.new.self c.skip_blanks-2.new.self c.eat.new.self c.value.new.text run.1
    (c.if-not-eat.ensures.yes refl) again.0 again.1 c.value.ensures.value
