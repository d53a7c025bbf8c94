use Rattle.std.proofs.Common.{◌≡◌, ◌≤◌, ◌++◌, length, vec_len}
use Rattle.nif_attributes.specs.Tokens.{replaced}
use Rattle.nif_attributes.proofs.tokens.replace.Given as goal

abbrev pub invariant-loop-place : goal.invariant-loop-place
invariant-loop-place l = record {
  made : replaced l.token l.string l.text ≡ l.out.items ++ replaced l.token l.string l.rest;
  within : vec_len l.out ≤ 4096;
}

abbrev pub decreases-loop-place : goal.decreases-loop-place
decreases-loop-place l = length l.rest
