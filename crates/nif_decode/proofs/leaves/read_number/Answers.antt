use Rattle.std.proofs.Common.{◌≡◌, sym, ◌∙◌, ap, subst, Some, refl}
use Rattle.nif_base.specs.Node as node
use Rattle.nif_base.specs.Node.{text, number, is_little, place_or_none}
use Rattle.nif_stream.specs.Taking.{Takes}
use Rattle.nif_layout.specs.Kind as kind
use Rattle.nif_layout.specs.Leaf.{IsLeaf}
use Rattle.nif_layout.specs.Fault as plain
use Rattle.nif_layout.specs.LeafFault.{leaf_fault}
use Rattle.nif_layout.specs.Fails.{LeafFails}
use Rattle.nif_scope.specs.Scope.{context_of}
use Rattle.nif_scope.specs.Told as kept
use Rattle.nif_decode.specs.Faults.{OfValue, cause}
use Rattle.nif_decode.specs.Answers.{Ceases, stand}
use Rattle.nif_decode.proofs.Leaving.{full_ceases, ends_ceases, leaf_reads, taken_takes, some_building}
use Rattle.nif_decode.proofs.leaves.read_number.Goals as goal

pub returns-in-Err-clause-answers : goal.returns-in-Err-clause-answers
returns-in-Err-clause-answers g c =
    let C = context_of c.args.context.now in
    let old = stand c.args.taker.now c.args.nodes.now c.args.store.now c.args.told.now.items in
    let new = stand c.args.taker.now c.count.new.nodes c.args.store.now c.args.told.now.items in
    subst (λ w. Ceases g.S.Source.left g.S.Source.still g.S.Source.read_faults (LeafFails C (kind.Number c.args.width c.args.little)) old new w)
    (ap (λ p. OfValue (plain.TooManyNodes p)) (sym c.place.ensures.place) ∙ sym (ap cause c.in-Err.ensures.err))
    (full_ceases g.S.Source.left g.S.Source.still g.S.Source.read_faults (λ p f. leaf_fault C (kind.Number c.args.width c.args.little) p ≡ Some f) old new 0 c.requires.ready refl refl c.in-Err.ensures.full)

pub returns-in-Err-take_number-clause-answers : goal.returns-in-Err-take_number-clause-answers
returns-in-Err-take_number-clause-answers g c =
    let C = context_of c.args.context.now in
    let old = stand c.args.taker.now c.args.nodes.now c.args.store.now c.args.told.now.items in
    let new = stand c.take_number.new.taker c.count.new.nodes c.args.store.now c.args.told.now.items in
    ends_ceases g.S.Source.left g.S.Source.still g.S.Source.read_faults (leaf_fault C (kind.Number c.args.width c.args.little)) (λ p f. leaf_fault C (kind.Number c.args.width c.args.little) p ≡ Some f) old new
    (cause c.in-Err-take_number.fault) c.in-Ok.ensures.room (some_building old 0 c.requires.ready.room) (λ p f h. h) c.in-Err-take_number.ensures.err

pub add_number-requires-clause-takes : goal.add_number-requires-clause-takes
add_number-requires-clause-takes g c =
    let old = stand c.args.taker.now c.args.nodes.now c.args.store.now c.args.told.now.items in
    let at = node.Num c.args.width c.args.little c.in-Ok-take_number.bits in
    taken_takes g.S.Source.left g.S.Source.still g.S.Source.read_faults c.args.context.now.context.order at old c.take_number.new.taker 0 c.requires.ready.room c.in-Ok.ensures.room refl
    (subst (λ b. Takes g.S.Source.left g.S.Source.still g.S.Source.read_faults c.args.taker.now (number b c.args.width c.in-Ok-take_number.bits) c.take_number.new.taker) c.is_low_first-first.ensures c.in-Ok-take_number.ensures.ok)

pub returns-in-Ok-add_number-clause-answers : goal.returns-in-Ok-add_number-clause-answers
returns-in-Ok-add_number-clause-answers g c =
    let C = context_of c.args.context.now in
    let old = stand c.args.taker.now c.args.nodes.now c.args.store.now c.args.told.now.items in
    let new = stand c.take_number.new.taker c.count.new.nodes c.add_number.new.store c.add_number.new.told.items in
    let at = node.Num c.args.width c.args.little c.in-Ok-take_number.bits in
    leaf_reads g.S.Source.left g.S.Source.still g.S.Source.read_faults c.args.context.now.context.order (IsLeaf C (kind.Number c.args.width c.args.little)) kept.told at old new
    (c.in-Ok-take_number.bits, refl, c.in-Ok-take_number.ensures.bits) c.in-Ok.ensures.room c.in-Ok.ensures.ok refl
    (subst (λ b. Takes g.S.Source.left g.S.Source.still g.S.Source.read_faults c.args.taker.now (number b c.args.width c.in-Ok-take_number.bits) c.take_number.new.taker) c.is_low_first-first.ensures c.in-Ok-take_number.ensures.ok)
    c.in-Ok-add_number.ensures.adds
