use Rattle.std.proofs.Common.{◌≡◌, ◌-◌, ◌≤◌, ◌++◌, length, take, drop}
use Rattle.std.specs.Prelude.{replicate}
use Rattle.std.specs.Option.{option_map}
use Rattle.nif_base.specs.Version.{pieces_of, values_of}
use Rattle.nif_base.proofs.VersionLemmas.{coming, rest_length}
use Rattle.nif_base.proofs.versions.Version.parse.Given as goal

abbrev pub invariant-loop-rest : goal.invariant-loop-rest
invariant-loop-rest l = record {
  size : length l.parts ≡ 4;
  within : l.count ≤ 4;
  read : values_of (pieces_of l.fn.text) ≡ option_map (λ values. take l.count l.parts ++ values) (coming l.rest);
  zeros : drop l.count l.parts ≡ replicate (4 - l.count) 0;
}

abbrev pub decreases-loop-rest : goal.decreases-loop-rest
decreases-loop-rest l = rest_length l.rest
