use Rattle.std.proofs.Common.{◌∙◌, ◌/◌, ap, arith, ◌<◌, length}
use Rattle.std.proofs.Math.ListN.{length-set}
use Rattle.nif_encode.proofs.NumberLaws.{rest_more, filled_more}
use Rattle.nif_encode.proofs.numbers.fill.Goals as goal

pub loop-i-preserved : goal.loop-i-preserved
loop-i-preserved c =
    let bytes = c.loop-i.bytes in
    let i = c.loop-i.i in
    let n = c.args.number in
    let within : i < length bytes = omega arith in
    record {
      kept = length-set bytes i _ ∙ c.loop-i.invariant.kept;
      left = ap (λ r. r / 256) c.loop-i.invariant.left ∙ rest_more n i;
      filled = filled_more bytes i n c.loop-i.rest within c.loop-i.invariant.left c.loop-i.invariant.filled;
    }
