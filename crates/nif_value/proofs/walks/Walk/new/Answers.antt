use Rattle.std.proofs.Common.{false, sym, subst, arith}
use Rattle.nif_region.specs.Contents.{find}
use Rattle.nif_value.specs.Kept.{cells_in}
use Rattle.nif_value.specs.Ways.{IsWay}
use Rattle.nif_value.proofs.WayLaws.{tree_way}
use Rattle.nif_cells.specs.Reading.{tree_in}
use Rattle.nif_value.proofs.walks.Walk.new.Goals as goal

pub invariant_of-result : goal.invariant_of-result
invariant_of-result c =
    let cells = cells_in (find c.args.region.now.runs c.args.run.key) in
    record {
      live = c.requires.live;
      within = omega arith;
      way = subst (IsWay false) (sym c.requires.tree.says) (tree_way (tree_in cells) c.requires.tree.has_bytes);
      copies = tt;
    }
