use Rattle.std.proofs.Common.{◌≡◌, false, take}
use Rattle.std.specs.List.{list_any}
use Rattle.nif_expr.specs.Codes.{reads}
use Rattle.nif_expr.proofs.codes.Code.constant.Given as goal

-- no word that was passed reads anything
abbrev pub invariant-loop-word : goal.invariant-loop-word
invariant-loop-word l = list_any reads (take l.word-index l.word-items) ≡ false
