use Rattle.std.proofs.Common.{Ok, Err, Result, OnOk}
use Rattle.nif_paths.proofs.RunLemmas.{marks-fewer, runs-fewer}
use Rattle.nif_paths.proofs.lines.Line.push.Goals as goal

on : {E : Type 0} {P Q R : Type 0} (r : Result (Unit {0}) E) → OnOk r P → OnOk r Q → (P → Q → R) → OnOk r R
on (Ok x) p q f = f p q
on (Err e) p q f = tt

pub returns : goal.returns
returns c =
    let old = c.args.self.now in
    let new = c.push_field.new.names in
    on c.push_field.result c.push_field.ensures.fields c.push_field.ensures.kept (λ more kept fields line. record {
      names = more fields line.names;
      marks = marks-fewer old.names new kept c.args.schema.now line.marks;
      runs = runs-fewer old.names new kept old.sets line.runs;
      known = line.known;
    })
