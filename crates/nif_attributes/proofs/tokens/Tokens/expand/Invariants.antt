use Rattle.std.proofs.Common.{◌≡◌, ◌≤◌, ◌-◌, length, drop}
use Rattle.std.specs.List.{fold}
use Rattle.nif_attributes.specs.Tokens.{expanded, pass_group, name_of_attribute}
use Rattle.nif_attributes.proofs.tokens.Tokens.expand.Given as goal

abbrev pub invariant-loop-at : goal.invariant-loop-at
invariant-loop-at l = record {
  within : l.at ≤ length l.self;
  done : fold (pass_group (name_of_attribute l.attribute)) l.out (drop l.at l.self) ≡ expanded l.self (name_of_attribute l.attribute) l.text;
}

abbrev pub decreases-loop-at : goal.decreases-loop-at
decreases-loop-at l = length l.self - l.at
