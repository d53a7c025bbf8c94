use Rattle.nif_paths.specs.Marks.{key_of_name, key_of_run}
use Rattle.nif_paths.proofs.lines.Line.new.Goals as goal

pub returns : goal.returns
returns c = λ schema. record {
  names = c.new.ensures.shapes;
  marks = λ first name types stop is. absurd (c.new.ensures.marks first (key_of_name name) types stop is);
  runs = λ first from to types number is. absurd (c.new.ensures.marks first (key_of_run from to) types number is);
  known = λ tables insides. c.new-2.ensures.known tables;
}
