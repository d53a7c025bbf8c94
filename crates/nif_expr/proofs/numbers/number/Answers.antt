use Rattle.nif_expr.proofs.NumberLemmas.{number_told}
use Rattle.nif_expr.proofs.numbers.number.Goals as goal

pub returns : goal.returns
returns c = number_told c.args.text.now c.version.result c.in_default.ensures c.in_default-hexadecimal.ensures c.version.ensures
