use Rattle.nif_script.proofs.Cutting.{pieces_few, pieces_short}
use Rattle.nif_script.proofs.pieces.Pieces.of.Goals as goal

pub returns-clause-few : goal.returns-clause-few
returns-clause-few c = pieces_few c.args.mark c.args.text.now

pub returns-clause-short : goal.returns-clause-short
returns-clause-short c = pieces_short c.args.mark c.args.text.now
