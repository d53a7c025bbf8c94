use Rattle.std.proofs.Common.{length, ap, ◌∙◌}
use Rattle.nif_base.specs.Node.{number}
use Rattle.nif_decode.proofs.Numbers.{turned}
use Rattle.nif_decode.proofs.takes.number_at.Goals as goal

pub returns-clause-spelled : goal.returns-clause-spelled
returns-clause-spelled c = ap (λ b. number b (length c.args.bytes.now) c.low_value-2.result) c.if-little.false ∙ turned c.args.bytes.now c.reverse.new.self c.low_value-2.result c.reverse.ensures.after c.low_value-2.ensures.spelled
