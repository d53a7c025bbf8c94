use Rattle.std.proofs.Common.{ℕ, List, subst}
use Rattle.nif_text.specs.Reading.{Never}
use Rattle.nif_text.specs.References.{Number}
use Rattle.nif_text.specs.Bases.{base_of, is_digit}
use Rattle.nif_text.proofs.reference.number_at.Goals as goal

pub returns-in_default-clause-none : goal.returns-in_default-clause-none
returns-in_default-clause-none c =
    let Q : List ℕ → Type 0 = λ x. Never (Number (base_of c.args.base) (is_digit c.args.base)) x in
    subst Q c.rest.ensures.text c.in_default.ensures.none
