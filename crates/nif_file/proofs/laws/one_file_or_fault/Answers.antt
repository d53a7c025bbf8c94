use Rattle.nif_layout.specs.ValueLaws.{type_or_fails, one_of_form, line_or_fails, one_of_line}
use Rattle.nif_file.proofs.KnownFiles.{known_within}
use Rattle.nif_file.proofs.WholeFiles.{file_or_fault, one_file, one_place}
use Rattle.nif_file.proofs.laws.one_file_or_fault.Goals as goal

pub returns : goal.returns
returns c = record {
  outcome = λ S is roles. file_or_fault type_or_fails one_of_form line_or_fails one_of_line S is roles;
  file = λ S is roles. one_file type_or_fails one_of_form line_or_fails one_of_line S is roles;
  place = λ S is roles. one_place type_or_fails one_of_form line_or_fails one_of_line S is roles;
  within = known_within;
}
