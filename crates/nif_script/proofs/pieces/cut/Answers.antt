use Rattle.std.proofs.Common.{sym}
use Rattle.nif_script.proofs.Cutting.{pieces_cut, pieces_whole}
use Rattle.nif_script.proofs.pieces.cut.Goals as goal

pub returns-in-Some : goal.returns-in-Some
returns-in-Some c = pieces_cut c.args.mark c.args.text.now c.in-Some.end (sym c.in-Some.ensures)

pub returns-in-None : goal.returns-in-None
returns-in-None c = pieces_whole c.args.mark c.args.text.now (sym c.in-None.ensures)
