use Rattle.std.proofs.Common.{◌≡◌, ◌∙◌, take, Some, [], ◌∷◌, ◌++◌, refl, sym, ap, subst}
use Rattle.nif_base.specs.Node as node
use Rattle.nif_base.specs.declared.orders.Order.TheVariants as order
use Rattle.nif_layout.specs.Fault as plain
use Rattle.nif_decode.specs.Faults.{OfValue, cause}
use Rattle.nif_decode.specs.Answers.{Stand, Ceases, stand, line_ends}
use Rattle.nif_decode.specs.Lines.{LineStops}
use Rattle.nif_decode.proofs.Leaving.{full_ceases, ends_ceases, memory_ceases, went_takes, taken_takes}
use Rattle.nif_decode.proofs.Rows.{went_joined}
use Rattle.nif_decode.proofs.LineSteps.{ceases_early, ceases_behind, first_ready, some_group, line_read}
use Rattle.nif_decode.proofs.first_line.read_first_line.Goals as goal

pub returns-in-Err-clause-answers : goal.returns-in-Err-clause-answers
returns-in-Err-clause-answers g c =
    let old : Stand g.row.S.Denot = stand c.args.taker.now c.args.nodes.now c.args.store.now c.args.told.now.items in
    let new : Stand g.row.S.Denot = stand c.take_nothing.new.taker c.args.nodes.now c.args.store.now c.args.told.now.items in
    ceases_early g.S.Source.left g.S.Source.still g.S.Source.read_faults LineStops old new (cause c.in-Err.fault) (some_group c.args.store.now.building c.requires.building) c.in-Err.ensures.err

pub returns-in-Err-count-clause-answers : goal.returns-in-Err-count-clause-answers
returns-in-Err-count-clause-answers g c =
    let old : Stand g.row.S.Denot = stand c.args.taker.now c.args.nodes.now c.args.store.now c.args.told.now.items in
    let mid : Stand g.row.S.Denot = stand c.take_nothing.new.taker c.args.nodes.now c.args.store.now c.args.told.now.items in
    let new : Stand g.row.S.Denot = stand c.take_nothing.new.taker c.count.new.nodes c.args.store.now c.args.told.now.items in
    let ready = first_ready g.S.Source.left g.S.Source.still g.S.Source.read_faults c.args.taker.now mid c.in-Ok.ensures.ok c.requires.room c.requires.counted c.requires.building in
    subst (λ w. Ceases g.S.Source.left g.S.Source.still g.S.Source.read_faults LineStops old new w)
    (ap (λ p. OfValue (plain.TooManyNodes p)) (sym c.place.ensures.place) ∙ sym (ap cause c.in-Err-count.ensures.err))
    (ceases_behind g.S.Source.left g.S.Source.still g.S.Source.read_faults LineStops old mid new _ c.in-Ok.ensures.ok refl c.requires.counted
    (full_ceases g.S.Source.left g.S.Source.still g.S.Source.read_faults (λ p f. line_ends p ≡ Some f) mid new 0 ready refl refl c.in-Err-count.ensures.full))

pub returns-in-Err-take_line-clause-answers : goal.returns-in-Err-take_line-clause-answers
returns-in-Err-take_line-clause-answers g c =
    let old : Stand g.row.S.Denot = stand c.args.taker.now c.args.nodes.now c.args.store.now c.args.told.now.items in
    let mid : Stand g.row.S.Denot = stand c.take_nothing.new.taker c.args.nodes.now c.args.store.now c.args.told.now.items in
    let new : Stand g.row.S.Denot = stand c.take_line.new.taker c.count.new.nodes c.args.store.now c.args.told.now.items in
    ceases_behind g.S.Source.left g.S.Source.still g.S.Source.read_faults LineStops old mid new (cause c.in-Err-take_line.fault) c.in-Ok.ensures.ok refl c.requires.counted
    (ends_ceases g.S.Source.left g.S.Source.still g.S.Source.read_faults line_ends (λ p f. line_ends p ≡ Some f) mid new
    (cause c.in-Err-take_line.fault) c.in-Ok-count.ensures.room (some_group c.args.store.now.building c.requires.building) (λ p f h. h) c.in-Err-take_line.ensures.err)

pub take_line-requires : goal.take_line-requires
take_line-requires g c = record { sound = c.in-Ok.ensures.ok.sound; ahead = c.in-Ok.ensures.ok.ahead; within = c.in-Ok.ensures.ok.within }

pub add_line-requires-clause-takes : goal.add_line-requires-clause-takes
add_line-requires-clause-takes g c =
    let mid : Stand g.row.S.Denot = stand c.take_nothing.new.taker c.args.nodes.now c.args.store.now c.args.told.now.items in
    let ready = first_ready g.S.Source.left g.S.Source.still g.S.Source.read_faults c.args.taker.now mid c.in-Ok.ensures.ok c.requires.room c.requires.counted c.requires.building in
    taken_takes g.S.Source.left g.S.Source.still g.S.Source.read_faults order.Little (node.Line (take c.in-Ok-take_line.length c.take_line.new.into)) mid c.take_line.new.taker 0 ready.room c.in-Ok-count.ensures.room refl
    c.in-Ok-take_line.ensures.ok

pub returns-in-Ok-add_line-clause-answers : goal.returns-in-Ok-add_line-clause-answers
returns-in-Ok-add_line-clause-answers g c =
    let old : Stand g.row.S.Denot = stand c.args.taker.now c.args.nodes.now c.args.store.now c.args.told.now.items in
    let mid : Stand g.row.S.Denot = stand c.take_nothing.new.taker c.args.nodes.now c.args.store.now c.args.told.now.items in
    let new : Stand g.row.S.Denot = stand c.take_line.new.taker c.count.new.nodes c.add_line.new.store c.add_line.new.told.items in
    line_read g.S.Source.left g.S.Source.still g.S.Source.read_faults old mid new c.take_line.new.into (take c.in-Ok-take_line.length c.take_line.new.into) c.in-Ok-take_line.length
    refl c.in-Ok-take_line.ensures.bound c.add_line.ensures.in_line c.in-Ok.ensures.ok c.in-Ok-take_line.ensures.ok c.in-Ok-count.ensures.room c.in-Ok-count.ensures.ok c.requires.building c.requires.told
    c.in-Ok-add_line.ensures.adds

pub returns-in-Err-add_line-clause-answers : goal.returns-in-Err-add_line-clause-answers
returns-in-Err-add_line-clause-answers g c =
    let old : Stand g.row.S.Denot = stand c.args.taker.now c.args.nodes.now c.args.store.now c.args.told.now.items in
    let new : Stand g.row.S.Denot = stand c.take_line.new.taker c.count.new.nodes c.add_line.new.store c.add_line.new.told.items in
    memory_ceases g.S.Source.left g.S.Source.still g.S.Source.read_faults LineStops old new
    (went_joined g.S.Source.left g.S.Source.still g.S.Source.read_faults [] c.args.taker.now c.take_nothing.new.taker c.take_line.new.taker c.in-Ok.ensures.ok
    (went_takes g.S.Source.left g.S.Source.still g.S.Source.read_faults (take c.in-Ok-take_line.length c.take_line.new.into ++ 10 ∷ []) c.take_nothing.new.taker c.take_line.new.taker c.in-Ok-take_line.ensures.ok))
    c.in-Err-add_line.ensures.adds
