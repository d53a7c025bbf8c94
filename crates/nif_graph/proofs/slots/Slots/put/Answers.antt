use Rattle.std.proofs.Common.{◌≡◌, ◌<◌, Some, length, refl, ap, arith}
use Rattle.std.specs.Prelude.{slice_get}
use Rattle.std.proofs.lemmas.Option.{slice_get_read}
use Rattle.nif_graph.specs.Slots.{Listed}
use Rattle.nif_graph.proofs.Placing.{moved_below, moved_different, moved_table}
use Rattle.nif_graph.proofs.slots.Slots.put.Goals as goal

pub enter-requires-clause-names : goal.enter-requires-clause-names
enter-requires-clause-names c =
    let slots = c.self.inside.slots.items in
    let within : c.args.from < length slots = omega (arith, c.requires.from, ap (λ (l : Listed). length l.slots) c.self.view_is) in
    let there : slice_get slots c.args.from ≡ Some c.remove-slot.result =
    slice_get_read slots (length slots) c.args.from c.remove-slot.result refl within c.remove-slot.ensures.value in
    rw (c.insert_reserved.ensures.items, c.remove-slot.ensures.items)
    (moved_below c.self.inside.places.items slots c.self.invariant c.args.from c.remove-slot.result there c.args.to)

pub enter-requires-clause-different : goal.enter-requires-clause-different
enter-requires-clause-different c =
    let slots = c.self.inside.slots.items in
    let within : c.args.from < length slots = omega (arith, c.requires.from, ap (λ (l : Listed). length l.slots) c.self.view_is) in
    let there : slice_get slots c.args.from ≡ Some c.remove-slot.result =
    slice_get_read slots (length slots) c.args.from c.remove-slot.result refl within c.remove-slot.ensures.value in
    rw (c.insert_reserved.ensures.items, c.remove-slot.ensures.items)
    (moved_different c.self.inside.places.items slots c.self.invariant c.args.from c.remove-slot.result there c.args.to)

pub invariant_of-self : goal.invariant_of-self
invariant_of-self c =
    let slots = c.self.inside.slots.items in
    let within : c.args.from < length slots = omega (arith, c.requires.from, ap (λ (l : Listed). length l.slots) c.self.view_is) in
    let there : slice_get slots c.args.from ≡ Some c.remove-slot.result =
    slice_get_read slots (length slots) c.args.from c.remove-slot.result refl within c.remove-slot.ensures.value in
    rw (c.insert_reserved.ensures.items, c.remove-slot.ensures.items)
    (moved_table c.self.inside.places.items slots c.self.invariant c.args.from c.remove-slot.result there c.args.to c.enter.new.places.items
    c.enter.ensures.length (rw (c.insert_reserved.ensures.items, c.remove-slot.ensures.items) at c.enter.ensures.table))
