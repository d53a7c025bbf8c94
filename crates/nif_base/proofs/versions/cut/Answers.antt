use Rattle.std.proofs.Common.{sym}
use Rattle.nif_base.proofs.VersionLemmas.{pieces_cut_range, pieces_whole}
use Rattle.nif_base.proofs.versions.cut.Goals as goal

pub returns-in-Some-clause-parts : goal.returns-in-Some-clause-parts
returns-in-Some-clause-parts c = pieces_cut_range c.args.text.now c.in-Some.dot (sym c.in-Some.ensures)

pub returns-in-None-clause-parts : goal.returns-in-None-clause-parts
returns-in-None-clause-parts c = pieces_whole c.args.text.now (sym c.in-None.ensures)
