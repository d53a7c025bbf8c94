use Rattle.std.proofs.Common.{◌≤◌, length}
use Rattle.nif_text.specs.Reading.{SameEnclosed}
use Rattle.nif_text.proofs.comment.go_to_pair.Given as goal

abbrev pub invariant-loop-text : goal.invariant-loop-text
invariant-loop-text l = record {
  same : SameEnclosed l.first l.second l.fn.text l.text;
  shorter : length l.text ≤ length l.fn.text;
}

abbrev pub decreases-loop-text : goal.decreases-loop-text
decreases-loop-text l = length l.text
