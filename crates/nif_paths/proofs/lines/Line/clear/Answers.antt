use Rattle.nif_paths.specs.Marks.{key_of_name, key_of_run}
use Rattle.nif_paths.proofs.lines.Line.clear.Goals as goal

pub returns-then-is_full : goal.returns-then-is_full
returns-then-is_full c = λ schema fields line. record {
  names = c.new.ensures.shapes;
  marks = λ first name types stop is. absurd (c.new.ensures.marks first (key_of_name name) types stop is);
  runs = λ first from to types number is. absurd (c.new.ensures.marks first (key_of_run from to) types number is);
  known = λ tables insides. c.new-then-is_full.ensures.known tables;
}

pub returns-else-is_full : goal.returns-else-is_full
returns-else-is_full c = λ schema fields line. record {
  names = c.new.ensures.shapes;
  marks = λ first name types stop is. absurd (c.new.ensures.marks first (key_of_name name) types stop is);
  runs = λ first from to types number is. absurd (c.new.ensures.marks first (key_of_run from to) types number is);
  known = line.known;
}
