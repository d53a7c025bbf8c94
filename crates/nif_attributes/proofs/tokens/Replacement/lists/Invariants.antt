use Rattle.std.proofs.Common.{◌≡◌, false, map, take}
use Rattle.std.specs.List.{list_any}
use Rattle.std.specs.Str.{bytes_eq}
use Rattle.nif_attributes.specs.Tokens.{name_of_attribute}
use Rattle.nif_attributes.proofs.tokens.Replacement.lists.Given as goal

abbrev pub invariant-loop-other : goal.invariant-loop-other
invariant-loop-other l = list_any (bytes_eq (name_of_attribute l.attribute)) (map name_of_attribute (take l.other-index l.other-items)) ≡ false
