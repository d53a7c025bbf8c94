use Rattle.std.proofs.Common.{◌≡◌, ◌<◌, ◌^◌, ◌-◌, length, ◌∙◌, ap, arith}
use Rattle.nif_graph.specs.declared.slots.Slot.{Slot}
use Rattle.nif_graph.specs.Slots.{Listed}
use Rattle.nif_graph.proofs.Placing.{added_different, added_table}
use Rattle.nif_graph.proofs.slots.Slots.insert.Goals as goal

pub enter-requires-clause-different : goal.enter-requires-clause-different
enter-requires-clause-different c =
    let slot : Slot = record { name = c.len-name.result; kind = c.args.kind; index_word = c.args.index_word; tree = c.args.tree } in
    let name : c.len-name.result ≡ length c.self.inside.places.items = omega (arith, c.len-name.ensures, c.self.inside.places.ok.0) in
    let few : length c.self.inside.places.items < 2 ^ 32 - 1 = omega (arith, c.requires.few, ap (λ (l : Listed). l.next) c.self.view_is) in
    rw c.insert_reserved.ensures.items
    (added_different c.self.inside.places.items c.self.inside.slots.items c.self.invariant c.args.at slot name few)

pub invariant_of-self : goal.invariant_of-self
invariant_of-self c =
    let slot : Slot = record { name = c.len-name.result; kind = c.args.kind; index_word = c.args.index_word; tree = c.args.tree } in
    let name : c.len-name.result ≡ length c.self.inside.places.items = omega (arith, c.len-name.ensures, c.self.inside.places.ok.0) in
    let few : length c.self.inside.places.items < 2 ^ 32 - 1 = omega (arith, c.requires.few, ap (λ (l : Listed). l.next) c.self.view_is) in
    rw c.insert_reserved.ensures.items
    (added_table c.self.inside.places.items c.self.inside.slots.items c.self.invariant c.args.at slot name few c.enter.new.places.items
    (c.enter.ensures.length ∙ ap length c.push_reserved.ensures.items)
    (rw (c.insert_reserved.ensures.items, c.push_reserved.ensures.items) at c.enter.ensures.table))
