use Rattle.std.proofs.Common.{◌≡◌, ◌+◌, ◌^◌, ◌≤◌, length}
use Rattle.nif_script.specs.Scripts.{edits_of, bad_line}
use Rattle.nif_script.specs.Kept.{AreWithin}
use Rattle.nif_script.proofs.Lines.{edits_behind, bad_behind}
use Rattle.nif_script.proofs.reading.read_lines.Given as goal

abbrev pub invariant-loop-line : goal.invariant-loop-line
invariant-loop-line l = record {
  room : length l.edits + length l.lines ≤ 2 ^ 20 + 1;
  few : l.number + length l.lines ≤ 2 ^ 20 + 1;
  short : AreWithin (2 ^ 20) l.lines;
  read : edits_of l.fn.bytes ≡ edits_behind l.edits l.lines;
  good : bad_line l.fn.bytes ≡ bad_behind l.number l.lines;
}

abbrev pub decreases-loop-line : goal.decreases-loop-line
decreases-loop-line l = length l.lines
