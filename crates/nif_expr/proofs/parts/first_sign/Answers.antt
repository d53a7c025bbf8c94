use Rattle.nif_expr.specs.SignTable.{sign_part}
use Rattle.nif_expr.specs.Kept.{part_of}
use Rattle.nif_expr.proofs.FirstLemmas.{sign_some, sign_none}
use Rattle.nif_expr.proofs.parts.first_sign.Goals as goal

pub returns-in-Some : goal.returns-in-Some
returns-in-Some c =
    sign_some c.args.text.now c.in-Some.rest.now (part_of c.token_of.result) (sign_part c.in-Some.sign) c.token_of.ensures c.in-Some.ensures

pub returns-in-None : goal.returns-in-None
returns-in-None c = sign_none c.args.text.now c.requires.letter c.requires.digit c.in-None.ensures
