use Rattle.std.proofs.Common.{◌^◌, sym, subst, inl, inr}
use Rattle.nif_region.specs.Contents.{find}
use Rattle.nif_value.specs.Kept.{cells_in}
use Rattle.nif_value.specs.Ways.{IsAt, Moves}
use Rattle.nif_value.proofs.WayLaws.{met_few, moves_line, moves_bytes, pass_fits}
use Rattle.nif_value.proofs.walks.move_on.Goals as goal

pub returns-in-Some-plain_step-clause-few : goal.returns-in-Some-plain_step-clause-few
returns-in-Some-plain_step-clause-few c = met_few (cells_in (find c.args.region.now.runs c.args.run.key)) c.args.next (2 ^ 32) c.content_at.ensures.few

pub pass_bytes-requires : goal.pass_bytes-requires
pass_bytes-requires c =
    pass_fits (cells_in (find c.args.region.now.runs c.args.run.key)) c.args.next c.in-Line.len c.in-Some.content c.in-Some.ensures.at (inl c.in-Line.is) c.requires.way c.content_at.ensures.few

pub pass_bytes-requires-in-Bytes : goal.pass_bytes-requires-in-Bytes
pass_bytes-requires-in-Bytes c =
    pass_fits (cells_in (find c.args.region.now.runs c.args.run.key)) c.args.next c.in-Bytes.len c.in-Some.content c.in-Some.ensures.at (inr c.in-Bytes.is) c.requires.way c.content_at.ensures.few

pub returns-in-Line-clause-moves : goal.returns-in-Line-clause-moves
returns-in-Line-clause-moves c =
    subst (Moves c.args.region.now c.args.run.key c.args.next) (sym c.pass_bytes.ensures)
    (moves_line c.args.region.now c.args.run.key c.args.next c.in-Line.len c.requires
    (subst (IsAt (cells_in (find c.args.region.now.runs c.args.run.key)) c.args.next) c.in-Line.is c.in-Some.ensures.at) c.content_at.ensures.few)

pub returns-in-Line-clause-few : goal.returns-in-Line-clause-few
returns-in-Line-clause-few c = met_few (cells_in (find c.args.region.now.runs c.args.run.key)) c.args.next (2 ^ 32) c.content_at.ensures.few

pub returns-in-Bytes-clause-moves : goal.returns-in-Bytes-clause-moves
returns-in-Bytes-clause-moves c =
    subst (Moves c.args.region.now c.args.run.key c.args.next) (sym c.pass_bytes-in-Bytes.ensures)
    (moves_bytes c.args.region.now c.args.run.key c.args.next c.in-Bytes.len c.requires
    (subst (IsAt (cells_in (find c.args.region.now.runs c.args.run.key)) c.args.next) c.in-Bytes.is c.in-Some.ensures.at) c.content_at.ensures.few)

pub returns-in-Bytes-clause-few : goal.returns-in-Bytes-clause-few
returns-in-Bytes-clause-few c = met_few (cells_in (find c.args.region.now.runs c.args.run.key)) c.args.next (2 ^ 32) c.content_at.ensures.few
