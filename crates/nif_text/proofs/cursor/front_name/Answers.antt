use Rattle.std.proofs.Common.{sym}
use Rattle.nif_text.proofs.Fronts.{front_name}
use Rattle.nif_text.proofs.cursor.front_name.Goals as goal

pub returns-clause-name : goal.returns-clause-name
returns-clause-name c =
    front_name c.in_ok-first.first.now c.behind-rest.ensures.run.0 c.args.text.now c.in_ok-first.more.now c.behind-rest.result.now
    c.in_ok-first.ensures.cases.0 (sym c.if-not-begins_name.ensures) c.behind-rest.ensures.run.1.many
