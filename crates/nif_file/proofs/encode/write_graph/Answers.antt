use Rattle.std.proofs.Common.{arith}
use Rattle.nif_stream.specs.PutterLaws.{puts}
use Rattle.nif_file.proofs.encode.write_graph.Goals as goal

pub returns-in_err-put_graph-clause-err : goal.returns-in_err-put_graph-clause-err
returns-in_err-put_graph-clause-err g c = grind (arith, puts)

pub returns-in_err-put_graph-clause-cause : goal.returns-in_err-put_graph-clause-cause
returns-in_err-put_graph-clause-cause g c = grind (arith, puts)

pub returns-clause-ok : goal.returns-clause-ok
returns-clause-ok g c = grind (arith, puts)

pub returns-clause-err : goal.returns-clause-err
returns-clause-err g c = grind (arith, puts)

pub returns-clause-cause : goal.returns-clause-cause
returns-clause-cause g c = grind (arith, puts)
