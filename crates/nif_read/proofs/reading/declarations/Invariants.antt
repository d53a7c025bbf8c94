use Rattle.std.proofs.Common.{◌≡◌, ◌≤◌, [], length, take, drop, map}
use Rattle.nif_attributes.specs.Attributes.{replaced_by}
use Rattle.nif_read.specs.Schemas.{first_fault, AreDeclared}
use Rattle.nif_read.proofs.reading.declarations.Given as goal

abbrev pub invariant-loop-number : goal.invariant-loop-number
invariant-loop-number l = record {
  rest : first_fault (replaced_by l.tokens) [] 0 l.children ≡ first_fault (replaced_by l.tokens) (map (λ d. d.name) l.schema) l.number (drop l.number l.children);
  done : AreDeclared (replaced_by l.tokens) (take l.number l.children) l.schema;
  few : length l.schema ≤ l.number;
}
