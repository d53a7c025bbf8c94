use Rattle.std.proofs.Common.{◌≡◌, ◌<◌, ◌^◌, ◌-◌, arith, length, ap}
use Rattle.nif_graph.specs.declared.slots.Slot.{Slot}
use Rattle.nif_graph.specs.Slots.{Listed}
use Rattle.nif_graph.proofs.Tables.{table_more}
use Rattle.nif_graph.proofs.slots.Slots.push.Goals as goal

pub invariant_of-self : goal.invariant_of-self
invariant_of-self c =
    let places = c.self.inside.places.items in
    let slots = c.self.inside.slots.items in
    let few : length places < 2 ^ 32 - 1 = omega (arith, c.requires.few, ap (λ (l : Listed). l.next) c.self.view_is) in
    let place : c.len-place.result ≡ length slots = omega (arith, c.len-place.ensures, c.self.inside.slots.ok.0) in
    let name : c.len-name.result ≡ length places = omega (arith, c.len-name.ensures, c.self.inside.places.ok.0) in
    let slot : Slot = record { name = c.len-name.result; kind = c.args.kind; index_word = c.args.index_word; tree = c.args.tree } in
    rw (c.push_reserved.ensures.items, c.push_reserved-2.ensures.items, place)
    (table_more places slots slot c.self.invariant name few)
