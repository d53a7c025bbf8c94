use Rattle.std.proofs.Common.{arith}
use Rattle.nif_decode.proofs.Numbers.{are_bytes}
use Rattle.nif_decode.proofs.runs.add_piece.Goals as goal

pub returns-in-Ok-clause-bytes : goal.returns-in-Ok-clause-bytes
returns-in-Ok-clause-bytes c = are_bytes c.args.piece.now (λ k. omega (arith, c.type_inv.piece k))

pub returns-in-Err-clause-bytes : goal.returns-in-Err-clause-bytes
returns-in-Err-clause-bytes c = are_bytes c.args.piece.now (λ k. omega (arith, c.type_inv.piece k))
