use Rattle.std.proofs.Common.{sym}
use Rattle.nif_text.proofs.Numbers.{number_never-empty, number_never-range, number_never-end}
use Rattle.nif_text.proofs.Fronts.{no_byte, other_byte}
use Rattle.nif_text.proofs.reference.front_number.Goals as goal

pub returns-then-rest-text-clause-none : goal.returns-then-rest-text-clause-none
returns-then-rest-text-clause-none c =
    let run = c.digits-code.ensures.run in
    number_never-empty c.args.base run.0 c.args.text.now c.digits-code.result.1.now run.1 c.if-rest-text.true

pub returns-then-not-is_character_code-clause-none :
    goal.returns-then-not-is_character_code-clause-none
returns-then-not-is_character_code-clause-none c =
    let run = c.digits-code.ensures.run in
    number_never-range c.args.base run.0 c.args.text.now c.digits-code.result.1.now c.digits-code.result.0 run.1 run.2 (sym c.if-not-is_character_code.ensures)

pub returns-in_default-clause-none : goal.returns-in_default-clause-none
returns-in_default-clause-none c =
    let run = c.digits-code.ensures.run in
    number_never-end c.args.base run.0 c.args.text.now c.digits-code.result.1.now run.1 (λ r e. no_byte c.digits-code.result.1.now 59 r c.in_default.ensures.cases e)

pub returns-then-end-ne59-clause-none : goal.returns-then-end-ne59-clause-none
returns-then-end-ne59-clause-none c =
    let run = c.digits-code.ensures.run in
    number_never-end c.args.base run.0 c.args.text.now c.digits-code.result.1.now run.1 (λ r e. other_byte c.digits-code.result.1.now c.in-Some.end.now 59 c.in-Some.rest.now r c.in-Some.ensures.cases.0 c.if-end-ne59.true e)
