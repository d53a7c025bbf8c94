use Rattle.std.proofs.Common.{◌++◌, [], codes, refl, append-nil}
use Rattle.std.proofs.lemmas.Result.{on_ok_weaker, on_err_weaker}
use Rattle.nif_stream.specs.PutterLaws.{puts_more, fails_more, fails_before}
use Rattle.nif_print.specs.Quoted.{quoted}
use Rattle.nif_print.specs.Files.{counted}
use Rattle.nif_print.proofs.files.put_unknown.Goals as goal

pub returns-in-Err-clause-err : goal.returns-in-Err-clause-err
returns-in-Err-clause-err g c =
    let before = counted (codes "file F13: block ") c.args.block ++ codes " unknown type " in
    fails_before g.K.Sink.grew g.K.Sink.write_faults c.args.out.now c.put_between.new.out before (quoted c.args.name.now) (before ++ quoted c.args.name.now) c.in-Err.ensures.err refl

pub returns-clause-ok : goal.returns-clause-ok
returns-clause-ok g c =
    let before = counted (codes "file F13: block ") c.args.block ++ codes " unknown type " in
    on_ok_weaker c.put_quoted.result
    (λ puts. puts_more g.K.Sink.grew g.K.Sink.write_faults c.args.out.now c.put_between.new.out c.put_quoted.new.out before (quoted c.args.name.now) (before ++ quoted c.args.name.now) c.in-Ok.ensures.ok puts refl)
    c.put_quoted.ensures.ok

pub returns-clause-err : goal.returns-clause-err
returns-clause-err g c =
    let before = counted (codes "file F13: block ") c.args.block ++ codes " unknown type " in
    on_err_weaker c.put_quoted.result
    (λ fails. fails_more g.K.Sink.grew g.K.Sink.write_faults c.args.out.now c.put_between.new.out c.put_quoted.new.out before (quoted c.args.name.now) [] (before ++ quoted c.args.name.now) c.in-Ok.ensures.ok fails
    (append-nil (before ++ quoted c.args.name.now)))
    c.put_quoted.ensures.err
