use Rattle.std.proofs.Common.{◌≡◌, sym, ◌∙◌, ap, subst, Some, refl}
use Rattle.nif_base.specs.Node as node
use Rattle.nif_base.specs.Node.{text, number, is_little, place_or_none}
use Rattle.nif_stream.specs.Taking.{Takes}
use Rattle.nif_layout.specs.Kind as kind
use Rattle.nif_layout.specs.Leaf.{IsLeaf}
use Rattle.nif_layout.specs.Fault as plain
use Rattle.nif_layout.specs.LeafFault.{leaf_fault, shortage, range_fault, number_at}
use Rattle.nif_layout.specs.Fails.{LeafFails}
use Rattle.nif_scope.specs.Scope.{context_of}
use Rattle.nif_scope.specs.Told as kept
use Rattle.nif_decode.specs.Faults.{OfValue, cause}
use Rattle.nif_decode.specs.Answers.{Ceases, stand}
use Rattle.nif_decode.proofs.Leaving.{full_ceases, ends_ceases, leaf_reads, taken_takes, some_building, range_ceases, first_ends}
use Rattle.nif_decode.proofs.leaves.read_text.Goals as goal

pub returns-in-Err-clause-answers : goal.returns-in-Err-clause-answers
returns-in-Err-clause-answers g c =
    let C = context_of c.args.context.now in
    let old = stand c.args.taker.now c.args.nodes.now c.args.store.now c.args.told.now.items in
    let new = stand c.args.taker.now c.count.new.nodes c.args.store.now c.args.told.now.items in
    subst (λ w. Ceases g.S.Source.left g.S.Source.still g.S.Source.read_faults (LeafFails C kind.Text) old new w)
    (ap (λ p. OfValue (plain.TooManyNodes p)) (sym c.place-at.ensures.place) ∙ sym (ap cause c.in-Err.ensures.err))
    (full_ceases g.S.Source.left g.S.Source.still g.S.Source.read_faults (λ p f. leaf_fault C kind.Text p ≡ Some f) old new 0 c.requires.ready refl refl c.in-Err.ensures.full)

pub returns-in-Err-take_number-clause-answers : goal.returns-in-Err-take_number-clause-answers
returns-in-Err-take_number-clause-answers g c =
    let C = context_of c.args.context.now in
    let old = stand c.args.taker.now c.args.nodes.now c.args.store.now c.args.told.now.items in
    let new = stand c.take_number.new.taker c.count.new.nodes c.args.store.now c.args.told.now.items in
    ends_ceases g.S.Source.left g.S.Source.still g.S.Source.read_faults (shortage 4) (λ p f. leaf_fault C kind.Text p ≡ Some f) old new
    (cause c.in-Err-take_number.fault) c.in-Ok.ensures.room (some_building old 0 c.requires.ready.room) (λ p f h. first_ends (shortage 4 p) (range_fault C.strings (number_at (is_little C.order) 4 p.left) (plain.StringRange p.place (number_at (is_little C.order) 4 p.left))) f h) c.in-Err-take_number.ensures.err

pub returns-in-Err-place_below-clause-answers : goal.returns-in-Err-place_below-clause-answers
returns-in-Err-place_below-clause-answers g c =
    let C = context_of c.args.context.now in
    let old = stand c.args.taker.now c.args.nodes.now c.args.store.now c.args.told.now.items in
    let new = stand c.take_number.new.taker c.count.new.nodes c.args.store.now c.args.told.now.items in
    subst (λ w. Ceases g.S.Source.left g.S.Source.still g.S.Source.read_faults (LeafFails C kind.Text) old new w)
    (ap (λ p. OfValue (plain.StringRange p c.in-Ok-take_number.value)) (sym c.place-at.ensures.place) ∙ ap (λ v. OfValue (plain.StringRange c.place-at.result v)) (sym c.in-Err-place_below.ensures.value))
    (range_ceases g.S.Source.left g.S.Source.still g.S.Source.read_faults (is_little c.args.context.now.context.order) C.strings c.in-Ok-take_number.value plain.StringRange (λ p f. leaf_fault C kind.Text p ≡ Some f) old new
    c.in-Ok.ensures.room (some_building old 0 c.requires.ready.room) (λ total place. refl) (λ p f h. h)
    (subst (λ b. Takes g.S.Source.left g.S.Source.still g.S.Source.read_faults c.args.taker.now (number b 4 c.in-Ok-take_number.value) c.take_number.new.taker) c.is_low_first-first.ensures c.in-Ok-take_number.ensures.ok)
    c.in-Ok-take_number.ensures.bits c.in-Err-place_below.ensures.some c.in-Err-place_below.ensures.above)

pub add_text-requires-clause-takes : goal.add_text-requires-clause-takes
add_text-requires-clause-takes g c =
    let old = stand c.args.taker.now c.args.nodes.now c.args.store.now c.args.told.now.items in
    taken_takes g.S.Source.left g.S.Source.still g.S.Source.read_faults c.args.context.now.context.order (node.Text c.in-Ok-place_below.place) old c.take_number.new.taker 0 c.requires.ready.room c.in-Ok.ensures.room refl
    (subst (λ s. Takes g.S.Source.left g.S.Source.still g.S.Source.read_faults c.args.taker.now s c.take_number.new.taker) (ap (λ b. number b 4 c.in-Ok-take_number.value) c.is_low_first-first.ensures ∙ ap (λ v. number (is_little c.args.context.now.context.order) 4 v) (sym c.in-Ok-place_below.ensures.spelled)) c.in-Ok-take_number.ensures.ok)

pub returns-in-Ok-add_text-clause-answers : goal.returns-in-Ok-add_text-clause-answers
returns-in-Ok-add_text-clause-answers g c =
    let C = context_of c.args.context.now in
    let old = stand c.args.taker.now c.args.nodes.now c.args.store.now c.args.told.now.items in
    let new = stand c.take_number.new.taker c.count.new.nodes c.add_text.new.store c.add_text.new.told.items in
    leaf_reads g.S.Source.left g.S.Source.still g.S.Source.read_faults c.args.context.now.context.order (IsLeaf C kind.Text) kept.told (node.Text c.in-Ok-place_below.place) old new
    (c.in-Ok-place_below.place, refl, c.in-Ok-place_below.ensures.below) c.in-Ok.ensures.room c.in-Ok.ensures.ok refl
    (subst (λ s. Takes g.S.Source.left g.S.Source.still g.S.Source.read_faults c.args.taker.now s c.take_number.new.taker) (ap (λ b. number b 4 c.in-Ok-take_number.value) c.is_low_first-first.ensures ∙ ap (λ v. number (is_little c.args.context.now.context.order) 4 v) (sym c.in-Ok-place_below.ensures.spelled)) c.in-Ok-take_number.ensures.ok)
    c.in-Ok-add_text.ensures.adds
