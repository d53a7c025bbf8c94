use Rattle.std.proofs.Common.{sym, subst}
use Rattle.nif_uses.specs.Users.{IsLinked}
use Rattle.nif_uses.proofs.Links.{linked-none}
use Rattle.nif_uses.proofs.users.Users.none.Goals as goal

pub returns-clause-linked : goal.returns-clause-linked
returns-clause-linked c =
    let latest = c.loop-number.latest.items in
    subst (IsLinked latest) (sym c.new.ensures.items) (linked-none latest c.loop-number.invariant.1)
