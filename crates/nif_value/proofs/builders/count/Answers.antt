use Rattle.std.proofs.Common.{ap, ◌∙◌, sym}
use Rattle.nif_value.specs.Built.{counted}
use Rattle.nif_value.proofs.Steps.{counted-last}
use Rattle.nif_value.proofs.builders.count.Goals as goal

pub returns-in-Some-clause-items : goal.returns-in-Some-clause-items
returns-in-Some-clause-items c = c.push_reserved.ensures.items ∙ sym (ap (counted c.args.more) c.in-Some.ensures.items ∙ counted-last c.args.more c.pop.new.self.items c.in-Some.level)
