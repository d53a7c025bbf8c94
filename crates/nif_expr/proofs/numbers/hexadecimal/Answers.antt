use Rattle.nif_expr.proofs.NumberLemmas.{hex_told}
use Rattle.nif_expr.proofs.numbers.hexadecimal.Goals as goal

pub returns-in-Some : goal.returns-in-Some
returns-in-Some c =
    hex_told c.args.text.now c.in-Some.digits.now c.number_in.result c.in-Some.ensures.cases.0 c.in-Some.ensures.cases.1 c.if-not-is_empty.ensures c.if-digits-le16.true c.number_in.ensures.some c.number_in.ensures.none
