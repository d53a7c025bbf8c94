use Rattle.std.proofs.Common.{ℕ, List, length, ◌≤◌}
use Rattle.nif_text.specs.Parts.{Many, Byte}
use Rattle.nif_text.specs.Kinds.{passes}
use Rattle.nif_text.proofs.cursor.behind.Given as goal

abbrev pub invariant-loop-c : goal.invariant-loop-c
invariant-loop-c l = ((bytes : List ℕ) × Many (Byte (passes l.kind)) bytes l.text l.rest) × (length l.rest ≤ length l.text)

abbrev pub decreases-loop-c : goal.decreases-loop-c
decreases-loop-c l = length l.rest
