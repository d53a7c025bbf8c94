use Rattle.std.proofs.Common.{ℕ, ◌≡◌, ◌≤◌, List, ◌++◌, length}
use Rattle.nif_text.specs.Parts.{Many}
use Rattle.nif_text.specs.Attributes.{ValuePart, joined}
use Rattle.nif_text.proofs.value.value_parts.Given as goal

abbrev pub invariant-loop : goal.invariant-loop
invariant-loop l = ((parts : List (List ℕ)) × Many (ValuePart l.quote) parts l.fn.text l.text × (l.out.items ≡ l.fn.out.items ++ joined parts)) × (length l.text ≤ length l.fn.text)

abbrev pub decreases-loop : goal.decreases-loop
decreases-loop l = length l.text
