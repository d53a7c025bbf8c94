use Rattle.std.proofs.Common.{ℕ, List, length, ◌≤◌, ◌≡◌}
use Rattle.nif_text.specs.Parts.{Many, Byte}
use Rattle.nif_text.specs.References.{number}
use Rattle.nif_text.specs.Bases.{base_of, is_digit, IsCapped}
use Rattle.nif_text.proofs.reference.digits.Given as goal

abbrev pub invariant-loop-c : goal.invariant-loop-c
invariant-loop-c l = record {
  run : (digits : List ℕ) × Many (Byte (is_digit l.base)) digits l.text l.rest × IsCapped l.number (number (base_of l.base) 0 digits);
  shorter : length l.rest ≤ length l.text;
  radix : l.radix ≡ base_of l.base;
}

abbrev pub decreases-loop-c : goal.decreases-loop-c
decreases-loop-c l = length l.rest
