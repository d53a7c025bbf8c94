use Rattle.nif_paths.proofs.RunLemmas.{marks-fewer, runs-fewer}
use Rattle.nif_paths.proofs.lines.Line.pop.Goals as goal

pub returns : goal.returns
returns c = λ fields line.
    let old = c.args.self.now in
    let new = c.pop_field.new.names in
    record {
      names = c.pop_field.ensures.fields fields line.names;
      marks = marks-fewer old.names new c.pop_field.ensures.kept c.args.schema.now line.marks;
      runs = runs-fewer old.names new c.pop_field.ensures.kept old.sets line.runs;
      known = line.known;
    }
