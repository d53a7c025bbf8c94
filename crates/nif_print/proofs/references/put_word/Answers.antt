use Rattle.std.proofs.Common.{arith}
use Rattle.nif_stream.specs.PutterLaws.{puts}
use Rattle.nif_print.proofs.references.put_word.Goals as goal

pub returns-in-Err-clause-err : goal.returns-in-Err-clause-err
returns-in-Err-clause-err g c = grind (arith, puts)

pub returns-clause-ok : goal.returns-clause-ok
returns-clause-ok g c = grind (arith, puts)

pub returns-clause-err : goal.returns-clause-err
returns-clause-err g c = grind (arith, puts)
