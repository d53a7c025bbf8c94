use Rattle.std.proofs.Common.{◌≡◌, ◌<◌, Some, length, refl, sym, ap, subst, arith}
use Rattle.std.specs.Prelude.{slice_get}
use Rattle.std.proofs.lemmas.Option.{slice_get_read}
use Rattle.nif_graph.specs.Slots.{Listed, DifferentSlots}
use Rattle.nif_graph.proofs.Placing.{different_remove, taken_table}
use Rattle.nif_graph.proofs.slots.Slots.take.Goals as goal

pub enter-requires-clause-different : goal.enter-requires-clause-different
enter-requires-clause-different c =
    subst (λ l. DifferentSlots l) (sym c.remove-slot.ensures.items)
    (different_remove c.args.place c.self.inside.slots.items c.self.invariant.different)

pub invariant_of-self : goal.invariant_of-self
invariant_of-self c =
    let slots = c.self.inside.slots.items in
    let within : c.args.place < length slots = omega (arith, c.requires, ap (λ (l : Listed). length l.slots) c.self.view_is) in
    let there : slice_get slots c.args.place ≡ Some c.remove-slot.result =
    slice_get_read slots (length slots) c.args.place c.remove-slot.result refl within c.remove-slot.ensures.value in
    rw c.remove-slot.ensures.items
    (taken_table c.self.inside.places.items slots c.self.invariant c.args.place c.remove-slot.result there c.enter.new.places.items
    c.enter.ensures.length (rw c.remove-slot.ensures.items at c.enter.ensures.table))
