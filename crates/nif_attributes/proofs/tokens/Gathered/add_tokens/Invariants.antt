use Rattle.std.proofs.Common.{◌≡◌, ◌++◌, map, take}
use Rattle.std.specs.List.{filter_map}
use Rattle.nif_attributes.specs.Tokens.{token_of, name_of_attribute}
use Rattle.nif_attributes.specs.Listing.{listed_as}
use Rattle.nif_attributes.specs.Kept.{IsGathered}
use Rattle.nif_attributes.proofs.tokens.Gathered.add_tokens.Given as goal

abbrev pub invariant-loop-child : goal.invariant-loop-child
invariant-loop-child l = record {
  items : l.self.items.items ≡ l.fn.self.items.items ++ map (listed_as (map name_of_attribute l.attributes)) (filter_map token_of (take l.child-index l.children));
  index : IsGathered l.fn.self → IsGathered l.self;
}
