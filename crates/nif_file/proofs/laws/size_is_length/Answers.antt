use Rattle.nif_file.specs.LengthLaws.{size_is_length}
use Rattle.nif_file.proofs.laws.size_is_length.Goals as goal

pub returns : goal.returns
returns c = size_is_length
