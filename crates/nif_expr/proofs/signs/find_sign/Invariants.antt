use Rattle.std.proofs.Common.{◌≡◌, drop}
use Rattle.std.specs.Prelude.{map}
use Rattle.nif_expr.specs.Parts.{first_sign}
use Rattle.nif_expr.specs.SignTable.{entry_of}
use Rattle.nif_expr.proofs.signs.find_sign.Given as goal

-- no spelling that was passed fits
abbrev pub invariant-loop-spelling : goal.invariant-loop-spelling
invariant-loop-spelling l = first_sign (map entry_of l.table) l.text ≡ first_sign (map entry_of (drop l.spelling-index l.table)) l.text
