use Rattle.std.proofs.lemmas.Result.{on_ok_weaker, on_err_weaker}
use Rattle.nif_encode.specs.Texts.{spelled}
use Rattle.nif_region.specs.Contents.{find}
use Rattle.nif_encode.proofs.PutLaws.{tree_puts, tree_fails, fails_at_once}
use Rattle.nif_encode.proofs.values.encode_value.Goals as goal

pub returns-in-Err-clause-err : goal.returns-in-Err-clause-err
returns-in-Err-clause-err g c =
    fails_at_once g.K.Sink.grew g.K.Sink.write_faults c.args.out.now c.put.new.self (spelled c.args.to.now) (find c.args.store.now.trees c.args.tree.run.key) c.in-Err.ensures.err

pub returns-clause-ok : goal.returns-clause-ok
returns-clause-ok g c =
    on_ok_weaker c.put_one.result (λ put.
    tree_puts g.K.Sink.grew g.K.Sink.write_faults c.args.out.now c.put.new.self c.put_one.new.out c.args.to.now (find c.args.store.now.trees c.args.tree.run.key) c.walk-walk.result.ahead
    c.walk-walk.ensures.ahead c.in-Ok.ensures.ok put) c.put_one.ensures.ok

pub returns-clause-err : goal.returns-clause-err
returns-clause-err g c =
    on_err_weaker c.put_one.result (λ failed.
    tree_fails g.K.Sink.grew g.K.Sink.write_faults c.args.out.now c.put.new.self c.put_one.new.out c.args.to.now (find c.args.store.now.trees c.args.tree.run.key) c.walk-walk.result.ahead
    c.walk-walk.ensures.ahead c.in-Ok.ensures.ok failed) c.put_one.ensures.err
