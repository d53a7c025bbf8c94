use Rattle.std.proofs.Common.{◌∙◌, ap, arith}
use Rattle.nif_graph.specs.Slots.{Listed, place_in}
use Rattle.nif_graph.proofs.Tables.{past_table}
use Rattle.nif_graph.proofs.slots.Slots.place_of.Goals as goal

pub returns : goal.returns
returns c =
    past_table c.self.inside.places.items c.self.inside.slots.items c.args.name c.self.invariant (omega arith)
    ∙ ap (λ (l : Listed). place_in c.args.name l.slots) c.self.view_is
