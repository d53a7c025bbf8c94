-- The table of signs, as plain data.
use Rattle.std.specs.Prelude.{ℕ, List}
use Rattle.std.specs.Borrow.{Bor}
use Rattle.nif_schema.specs.Expression as tree
use Rattle.nif_expr.specs.Parts as plain
use Rattle.nif_expr.specs.declared.signs.Sign.{Sign}
use Rattle.nif_expr.specs.declared.signs.Sign.TheVariants.{Operator, Negation, Opening, Closing, Arg}

abbrev pub sign_part : Sign → plain.Part
sign_part (Operator op) = plain.Operator op
sign_part Negation = plain.Negation
sign_part Opening = plain.Opening
sign_part Closing = plain.Closing
sign_part Arg = plain.Operand tree.Arg

abbrev pub entry_of : Bor (List ℕ) × Sign → List ℕ × plain.Part
entry_of entry = (entry.0.now, sign_part entry.1)
