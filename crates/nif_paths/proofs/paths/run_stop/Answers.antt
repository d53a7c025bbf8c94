use Rattle.std.proofs.Common.{drop, take, Ok, Err, Result, IfOk, OnOk, ◌∙◌}
use Rattle.std.proofs.lemmas.Result.{IfOk-weaker}
use Rattle.nif_names.specs.Tables.{kinds}
use Rattle.nif_sets.specs.Sets.{types_of}
use Rattle.nif_paths.proofs.RunLemmas.{runs-grown, sets-grown}
use Rattle.nif_paths.proofs.StopLemmas.{types-same}
use Rattle.nif_paths.proofs.paths.run_stop.Goals as goal

both : {X E : Type 0} {P Q : Type 0} {R : X → Type 0} (r : Result X E) → OnOk r P → OnOk r Q → ((x : X) → P → Q → R x) → IfOk r R
both (Ok x) p q f = f x p q
both (Err e) p q f = tt

pub returns-in-Ok-clause-stop : goal.returns-in-Ok-clause-stop
returns-in-Ok-clause-stop c = IfOk-weaker c.set_stop.result _ _ (λ stop says schema insides runs known.
    says schema insides ((c.in-Ok.ensures.same c.args.tables.now).known known)
    ∙ types-same schema (drop 1 c.args.path.now) (types_of c.run_set.new.line.sets c.in-Ok.set) (drop c.args.from (take c.args.to (kinds c.args.line.now.names c.args.first.now).types))
    (c.in-Ok.ensures.types runs).same) c.set_stop.ensures.stop

pub returns-in-Ok-clause-same : goal.returns-in-Ok-clause-same
returns-in-Ok-clause-same c = both c.set_stop.result c.set_stop.ensures.grown c.set_stop.ensures.known (λ stop grown known.
    let before = c.in-Ok.ensures.same c.args.tables.now in
    let line = c.run_set.new.line in
    record {
      shapes = before.shapes;
      types = before.types;
      marks = before.marks;
      runs = λ runs. runs-grown line.names line.sets c.set_stop.new.sets grown (before.runs runs);
      grown = sets-grown c.args.line.now.sets line.sets c.set_stop.new.sets before.grown grown;
      known = λ is. known (before.known is);
    })
