use Rattle.std.proofs.Common.{◌≡◌, ◌∷◌, length, sym, ap, ◌∙◌, arith}
use Rattle.nif_script.proofs.Cutting.{within_along, within_tail}
use Rattle.nif_script.proofs.Lines.{edits_start, edits_more, edits_behind, bad_start, bad_more, bad_behind}
use Rattle.nif_script.proofs.reading.read_lines.Goals as goal

pub loop-line-init : goal.loop-line-init
loop-line-init c =
    let bytes = c.args.bytes.now in
    let is = c.of-lines.ensures.pieces in
    record {
      room = omega (arith, ap length c.requires.empty, c.of-lines.ensures.few);
      few = omega (arith, c.of-lines.ensures.few);
      short = within_along _ _ _ c.requires.short c.of-lines.ensures.short;
      read = edits_start bytes c.args.edits.now c.requires.empty ∙ ap (edits_behind c.args.edits.now) (sym is);
      good = bad_start bytes ∙ ap (bad_behind 0) (sym is);
    }

pub loop-line-preserved : goal.loop-line-preserved
loop-line-preserved c =
    let before = c.loop-line.edits in
    let after = c.read_line.new.edits in
    let old = c.loop-line.lines in
    let new = c.next.new.self in
    let line = c.in-Some.line.now in
    let held = c.loop-line.invariant in
    let is : old ≡ line ∷ new = c.in-Some.ensures in
    record {
      room = omega (arith, held.room, ap length is, c.in-Ok.ensures.few);
      few = omega (arith, held.few, ap length is);
      short = within_tail _ old new line is held.short;
      read = edits_more _ before after old new line held.read is c.in-Ok.ensures.ok;
      good = bad_more _ c.loop-line.number before after old new line held.good is c.in-Ok.ensures.ok;
    }
