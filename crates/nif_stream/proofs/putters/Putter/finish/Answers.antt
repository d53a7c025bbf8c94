use Rattle.std.proofs.lemmas.Result.{on_ok_weaker, on_err_weaker}
use Rattle.nif_stream.proofs.Writes.{takes_pending, takes_rest, put_taken}
use Rattle.nif_stream.proofs.putters.Putter.finish.Goals as goal

pub returns-then-failed-clause-err : goal.returns-then-failed-clause-err
returns-then-failed-clause-err g c = λ start all. put_taken g.K.Sink.grew start c.args.self all

pub returns-clause-ok : goal.returns-clause-ok
returns-clause-ok g c =
    on_ok_weaker c.write_all.result
    (λ grown start all. takes_rest g.K.Sink.grew g.met.K.Sink.grew_joined start c.args.self c.write_all.new.sink c.bytes.result.now all c.bytes.ensures grown)
    c.write_all.ensures.ok

-- the sink took the first of what was pending
pub returns-clause-err : goal.returns-clause-err
returns-clause-err g c =
    on_err_weaker c.write_all.result
    (λ fell start all. takes_pending g.K.Sink.grew g.met.K.Sink.grew_joined start c.args.self c.write_all.new.sink fell.0 c.bytes.result.now all c.bytes.ensures fell.1)
    c.write_all.ensures.err
