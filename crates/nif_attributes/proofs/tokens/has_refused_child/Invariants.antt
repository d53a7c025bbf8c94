use Rattle.std.proofs.Common.{◌≡◌, false, take}
use Rattle.std.specs.List.{list_any}
use Rattle.std.specs.Option.{is_none}
use Rattle.nif_attributes.specs.Tokens.{token_of}
use Rattle.nif_attributes.proofs.tokens.has_refused_child.Given as goal

abbrev pub invariant-loop-child : goal.invariant-loop-child
invariant-loop-child l = list_any (λ child. is_none (token_of child)) (take l.child-index l.child-items) ≡ false
