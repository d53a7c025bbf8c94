use Rattle.std.proofs.Common.{◌≡◌, length, sym, ◌∙◌, ap, subst, arith, Some, refl, take, length-take, ◌≤◌}
use Rattle.nif_base.specs.Node as node
use Rattle.nif_base.specs.Node.{text, number, is_little, place_or_none}
use Rattle.nif_layout.specs.Kind as kind
use Rattle.nif_layout.specs.Leaf.{IsLeaf}
use Rattle.nif_layout.specs.Fault as plain
use Rattle.nif_layout.specs.LeafFault.{leaf_fault}
use Rattle.nif_layout.specs.Fails.{LeafFails}
use Rattle.nif_scope.specs.Scope.{context_of}
use Rattle.nif_scope.specs.Told as kept
use Rattle.nif_decode.specs.Faults.{OfValue, cause}
use Rattle.nif_decode.specs.Answers.{Ceases, stand, line_ends}
use Rattle.nif_decode.proofs.Leaving.{full_ceases, ends_ceases, leaf_reads, taken_takes, some_building}
use Rattle.nif_decode.proofs.leaves.read_line.Goals as goal

pub returns-in-Err-clause-answers : goal.returns-in-Err-clause-answers
returns-in-Err-clause-answers g c =
    let C = context_of c.args.context.now in
    let old = stand c.args.taker.now c.args.nodes.now c.args.store.now c.args.told.now.items in
    let new = stand c.args.taker.now c.count.new.nodes c.args.store.now c.args.told.now.items in
    subst (λ w. Ceases g.S.Source.left g.S.Source.still g.S.Source.read_faults (LeafFails C kind.Line) old new w)
    (ap (λ p. OfValue (plain.TooManyNodes p)) (sym c.place.ensures.place) ∙ sym (ap cause c.in-Err.ensures.err))
    (full_ceases g.S.Source.left g.S.Source.still g.S.Source.read_faults (λ p f. leaf_fault C kind.Line p ≡ Some f) old new 0 c.requires.ready refl refl c.in-Err.ensures.full)

pub returns-in-Err-take_line-clause-answers : goal.returns-in-Err-take_line-clause-answers
returns-in-Err-take_line-clause-answers g c =
    let C = context_of c.args.context.now in
    let old = stand c.args.taker.now c.args.nodes.now c.args.store.now c.args.told.now.items in
    let new = stand c.take_line.new.taker c.count.new.nodes c.args.store.now c.args.told.now.items in
    ends_ceases g.S.Source.left g.S.Source.still g.S.Source.read_faults line_ends (λ p f. leaf_fault C kind.Line p ≡ Some f) old new
    (cause c.in-Err-take_line.fault) c.in-Ok.ensures.room (some_building old 0 c.requires.ready.room) (λ p f h. h) c.in-Err-take_line.ensures.err

pub add_line-requires-clause-takes : goal.add_line-requires-clause-takes
add_line-requires-clause-takes g c =
    let old = stand c.args.taker.now c.args.nodes.now c.args.store.now c.args.told.now.items in
    taken_takes g.S.Source.left g.S.Source.still g.S.Source.read_faults c.args.context.now.context.order (node.Line (take c.in-Ok-take_line.length c.take_line.new.into)) old c.take_line.new.taker 0 c.requires.ready.room c.in-Ok.ensures.room refl
    c.in-Ok-take_line.ensures.ok

pub returns-in-Ok-add_line-clause-answers : goal.returns-in-Ok-add_line-clause-answers
returns-in-Ok-add_line-clause-answers g c =
    let C = context_of c.args.context.now in
    let old = stand c.args.taker.now c.args.nodes.now c.args.store.now c.args.told.now.items in
    let new = stand c.take_line.new.taker c.count.new.nodes c.add_line.new.store c.add_line.new.told.items in
    let line = take c.in-Ok-take_line.length c.take_line.new.into in
    let short : length line ≤ 255 = omega (arith, length-take c.in-Ok-take_line.length c.take_line.new.into, c.in-Ok-take_line.ensures.bound) in
    leaf_reads g.S.Source.left g.S.Source.still g.S.Source.read_faults c.args.context.now.context.order (IsLeaf C kind.Line) kept.told (node.Line line) old new
    (line, refl, c.add_line.ensures.in_line, short) c.in-Ok.ensures.room c.in-Ok.ensures.ok refl
    c.in-Ok-take_line.ensures.ok
    c.in-Ok-add_line.ensures.adds
