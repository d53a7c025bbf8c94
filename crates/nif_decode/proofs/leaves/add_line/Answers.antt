use Rattle.std.proofs.Common.{arith}
use Rattle.nif_decode.proofs.Numbers.{are_in_line}
use Rattle.nif_decode.proofs.leaves.add_line.Goals as goal

pub returns-in-Err-clause-in_line : goal.returns-in-Err-clause-in_line
returns-in-Err-clause-in_line c = are_in_line c.args.bytes.now (λ k. omega (arith, c.type_inv.bytes k)) c.requires.one_line

pub returns-in-Ok-push-clause-in_line : goal.returns-in-Ok-push-clause-in_line
returns-in-Ok-push-clause-in_line c = are_in_line c.args.bytes.now (λ k. omega (arith, c.type_inv.bytes k)) c.requires.one_line

pub returns-in-Err-push-clause-in_line : goal.returns-in-Err-push-clause-in_line
returns-in-Err-push-clause-in_line c = are_in_line c.args.bytes.now (λ k. omega (arith, c.type_inv.bytes k)) c.requires.one_line
