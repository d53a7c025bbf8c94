use Rattle.std.proofs.Common.{◌≡◌, IfSome, length, sym, ap, subst, arith}
use Rattle.std.specs.Prelude.{slice_get}
use Rattle.nif_graph.specs.declared.slots.Slot.{Slot}
use Rattle.nif_graph.specs.Slots.{Listed}
use Rattle.nif_graph.proofs.Placing.{set_table}
use Rattle.nif_graph.proofs.slots.Slots.set.Goals as goal

pub invariant_of-self : goal.invariant_of-self
invariant_of-self c =
    set_table c.self.inside.places.items c.self.inside.slots.items c.args.place c.args.slot c.self.invariant
    (subst (λ (l : Listed). IfSome (slice_get l.slots c.args.place) (λ (old : Slot). c.args.slot.name ≡ old.name)) (sym c.self.view_is) c.requires.name)
    (omega (arith, c.requires.within, ap (λ (l : Listed). length l.slots) c.self.view_is))
