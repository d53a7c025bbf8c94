use Rattle.std.proofs.Common.{◌≤◌, List, length}
use Rattle.nif_text.specs.Parts.{Many}
use Rattle.nif_text.specs.Documents.{Aside}
use Rattle.nif_text.proofs.document.asides.Given as goal

abbrev pub invariant-loop : goal.invariant-loop
invariant-loop l = record {
  run : (times : List (Unit {0})) × Many (λ _. Aside) times l.fn.text l.text;
  shorter : length l.text ≤ length l.fn.text;
}

abbrev pub decreases-loop : goal.decreases-loop
decreases-loop l = length l.text
