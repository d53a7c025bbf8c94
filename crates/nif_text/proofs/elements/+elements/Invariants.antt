use Rattle.std.proofs.Common.{◌≡◌, ◌+◌, ◌*◌, ◌≤◌, List, ◌++◌, length, Option}
use Rattle.nif_text.specs.Tree.{Tree}
use Rattle.nif_text.specs.Parts.{Many}
use Rattle.nif_text.specs.Elements.{Piece, children_among, Nested}
use Rattle.nif_text.proofs.elements.+elements.Given as goal

abbrev pub decreases-content : goal.decreases-content
decreases-content l = 3 * l.levels + 2

abbrev pub decreases-element : goal.decreases-element
decreases-element l = 3 * l.levels

abbrev pub decreases-piece : goal.decreases-piece
decreases-piece l = 3 * l.levels + 1

abbrev pub invariant-content-loop : goal.invariant-content-loop
invariant-content-loop l = record {
  run : (pieces : List (Option Tree)) × Many (Piece (Nested l.levels)) pieces l.fn.text l.text × (l.children.items ≡ l.fn.children.items ++ children_among pieces);
  few : length l.children.items + length l.text ≤ length l.fn.children.items + length l.fn.text;
}

abbrev pub decreases-content-loop : goal.decreases-content-loop
decreases-content-loop l = length l.text
