use Rattle.std.proofs.Common.{◌≡◌, ◌+◌, ◌≤◌, ◌++◌, length}
use Rattle.std.specs.Option.{option_map}
use Rattle.nif_script.specs.Forms.{numbers_of}
use Rattle.nif_script.proofs.numbers.numbers.Given as goal

abbrev pub invariant-loop-word : goal.invariant-loop-word
invariant-loop-word l = record {
  room : length l.numbers + length l.words ≤ length l.fn.words;
  read : numbers_of l.fn.words ≡ option_map (λ more. l.numbers ++ more) (numbers_of l.words);
}

abbrev pub decreases-loop-word : goal.decreases-loop-word
decreases-loop-word l = length l.words
