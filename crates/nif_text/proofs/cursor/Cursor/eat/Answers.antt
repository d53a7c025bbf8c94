use Rattle.nif_text.proofs.Fronts.{begins, begins_not}
use Rattle.nif_text.proofs.cursor.Cursor.eat.Goals as goal

pub returns-in-Some-clause-yes : goal.returns-in-Some-clause-yes
returns-in-Some-clause-yes c _ =
    begins c.args.bytes.now c.args.self.now c.self.inside.rest.now c.in-Some.rest.now c.self.view_is c.in-Some.ensures.cases.0 c.in-Some.ensures.cases.1

pub returns-in-None-clause-no : goal.returns-in-None-clause-no
returns-in-None-clause-no c _ rest e =
    begins_not c.args.bytes.now c.args.self.now c.self.inside.rest.now rest c.self.view_is c.in-None.ensures.cases e
