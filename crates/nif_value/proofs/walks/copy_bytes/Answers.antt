use Rattle.std.proofs.Common.{drop, set, ◌∙◌, ap, arith}
use Rattle.nif_region.specs.Contents.{find}
use Rattle.nif_cells.specs.Reading.{said, bytes_at}
use Rattle.nif_value.specs.Kept.{cells_in}
use Rattle.std.proofs.Math.ListN.{length-set}
use Rattle.nif_value.proofs.WayLaws.{copies_more, get_drop}
use Rattle.nif_value.proofs.walks.copy_bytes.Goals as goal

pub loop-i-preserved : goal.loop-i-preserved
loop-i-preserved c =
    let bytes = bytes_at (said (drop c.args.span.first (cells_in (find c.args.region.now.runs c.args.run.key)))) in
    let src = drop c.args.span.copied bytes in
    let i = c.loop-i.i in
    let byte = c.byte_at.result in
    record {
      kept = length-set c.loop-i.buf i byte ∙ c.loop-i.invariant.kept;
      copied = ap (λ l. set l i byte) c.loop-i.invariant.copied
          ∙ copies_more src c.args.buf.now i byte (omega arith) (get_drop bytes c.args.span.copied i ∙ c.byte_at.ensures);
    }
