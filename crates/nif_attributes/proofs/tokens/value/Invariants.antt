use Rattle.std.proofs.Common.{◌≡◌, drop}
use Rattle.nif_attributes.specs.Tokens.{value_of}
use Rattle.nif_attributes.proofs.tokens.value.Given as goal

abbrev pub invariant-loop-place : goal.invariant-loop-place
invariant-loop-place l = value_of l.attrs l.name ≡ value_of (drop l.place l.attrs) l.name
