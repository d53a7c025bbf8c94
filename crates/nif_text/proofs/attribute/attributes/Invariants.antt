use Rattle.std.proofs.Common.{◌+◌, ◌≤◌, length}
use Rattle.nif_text.specs.Parts.{Many}
use Rattle.nif_text.specs.Attributes.{Attribute}
use Rattle.nif_text.proofs.attribute.attributes.Given as goal

abbrev pub invariant-loop-attrs : goal.invariant-loop-attrs
invariant-loop-attrs l = record {
  run : Many Attribute l.attrs l.fn.text l.text;
  shorter : length l.attrs + length l.text ≤ length l.fn.text;
}

abbrev pub decreases-loop-attrs : goal.decreases-loop-attrs
decreases-loop-attrs l = length l.text
