use Rattle.std.proofs.Common.{◌∙◌, ap, None}
use Rattle.std.specs.Prelude.{slice_get, unwrap_or}
use Rattle.nif_graph.specs.Slots.{Listed, place_in}
use Rattle.nif_graph.proofs.Tables.{all_places}
use Rattle.nif_graph.proofs.slots.Slots.places.Goals as goal

pub returns : goal.returns
returns c name =
    ap (λ l. unwrap_or (slice_get l name) None) c.as_slice.ensures.value
    ∙ all_places c.self.inside.places.items c.self.inside.slots.items c.self.invariant name
    ∙ ap (λ (l : Listed). place_in name l.slots) c.self.view_is
