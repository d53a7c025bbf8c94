use Rattle.std.proofs.Common.{map, take}
use Rattle.nif_attributes.specs.Tokens.{groups_of}
use Rattle.nif_attributes.specs.Listing.{GroupsAlike, lone}
use Rattle.nif_attributes.specs.Kept.{IsGathered}
use Rattle.nif_attributes.proofs.tokens.Tokens.of.Given as goal

abbrev pub invariant-loop-child : goal.invariant-loop-child
invariant-loop-child l = record {
  alike : GroupsAlike (map lone l.gathered.items.items) (groups_of (take l.child-index l.child-items));
  index : IsGathered l.gathered;
}
