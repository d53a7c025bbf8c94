use Rattle.nif_edit.proofs.Kin.{header_stays, origin_stays}
use Rattle.nif_edit.proofs.Origins.{keeps_graph}
use Rattle.nif_edit.proofs.Seen.{find-after}
use Rattle.nif_edit.proofs.laws.graphs_stay.Goals as goal

pub returns : goal.returns
returns c = record {
  graph = keeps_graph;
  seen = find-after;
  header = λ S places G e. (header_stays S places G e, origin_stays S places G e);
}
