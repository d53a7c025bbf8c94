use Rattle.std.proofs.Common.{drop, sym, ◌∙◌}
use Rattle.nif_names.specs.Shapes.{inners}
use Rattle.nif_names.specs.Tables.{held}
use Rattle.nif_paths.proofs.StopLemmas.{same-reason}
use Rattle.nif_paths.proofs.paths.unkept_reason.Goals as goal

pub returns-in-Ok : goal.returns-in-Ok
returns-in-Ok c = λ schema insides.
    c.stop_reason.ensures
    ∙ same-reason schema (drop 1 c.args.path.now) c.inners.result.now (inners (held c.args.line.now.names c.args.first.now)) c.in-Ok.stop c.inners.ensures.same (sym (c.in-Ok.ensures schema insides))
