use Rattle.std.proofs.Common.{subst}
use Rattle.std.proofs.lemmas.Result.{on_ok_weaker, on_err_weaker}
use Rattle.nif_stream.specs.Putting.{HasTaken}
use Rattle.nif_file.proofs.WholePuts.{can_put, said_text}
use Rattle.nif_file.proofs.encode.encode_file.Goals as goal

pub write_graph-requires : goal.write_graph-requires
write_graph-requires g c = can_put c.args.schema.now c.count-declarations.ensures.schema c.requires.roles c.args.graph.now c.requires.whole

pub returns-clause-ok : goal.returns-clause-ok
returns-clause-ok g c =
    on_ok_weaker c.write_graph.result
    (λ grown. subst (λ l. g.K.Sink.grew c.args.sink.now l c.write_graph.new.sink) (said_text c.args.schema.now c.count-declarations.ensures.schema c.requires.roles c.args.graph.now c.requires.whole) grown) c.write_graph.ensures.ok

pub returns-clause-err : goal.returns-clause-err
returns-clause-err g c =
    on_err_weaker c.write_graph.result
    (λ taken. subst (λ l. HasTaken g.K.Sink.grew c.args.sink.now c.write_graph.new.sink l) (said_text c.args.schema.now c.count-declarations.ensures.schema c.requires.roles c.args.graph.now c.requires.whole) taken) c.write_graph.ensures.err
