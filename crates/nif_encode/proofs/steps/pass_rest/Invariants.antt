use Rattle.std.proofs.Common.{◌≡◌, ◌+◌, ◌^◌, ◌<◌, length}
use Rattle.nif_encode.specs.Texts.{where_open, behind_one}
use Rattle.nif_encode.proofs.steps.pass_rest.Given as goal

abbrev pub invariant-loop-depth : goal.invariant-loop-depth
invariant-loop-depth l = record {
  whole : where_open l.depth (behind_one l.depth l.walk.ahead) l.walk.ahead
      ≡ where_open l.levels (behind_one l.levels l.fn.walk.ahead) l.fn.walk.ahead;
  fits : l.depth + length l.walk.ahead < 2 ^ 32;
}

abbrev pub decreases-loop-depth : goal.decreases-loop-depth
decreases-loop-depth l = length l.walk.ahead
