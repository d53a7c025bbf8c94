use Rattle.nif_layout.proofs.Depth.{shape_depth}
use Rattle.nif_layout.proofs.laws.depth_within.Goals as goal

pub returns : goal.returns
returns c = shape_depth
