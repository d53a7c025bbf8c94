use Rattle.std.proofs.Common.{◌≡◌, ◌∙◌, Some, map, length, refl, subst, arith}
use Rattle.std.specs.Prelude.{slice_get}
use Rattle.std.proofs.lemmas.Option.{slice_get_read}
use Rattle.nif_base.specs.Node.{refs}
use Rattle.nif_graph.specs.Kept.{named_in}
use Rattle.nif_graph.specs.Marks.{IsExpanded}
use Rattle.nif_graph.proofs.Keeping.{placed, found_slot, slot_lives, strong_lives}
use Rattle.nif_graph.proofs.Marking.{reach_begins, reach_goes_on, reach_ends, reached_lives}
use Rattle.nif_graph.proofs.marks.Marks.mark_reached.Goals as goal

pub find-requires : goal.find-requires
find-requires c = placed c.args.store.now c.args.from c.args.slots.now.slots c.requires.from

pub expand-requires-clause-live : goal.expand-requires-clause-live
expand-requires-clause-live c =
    slot_lives c.args.store.now c.args.from c.args.slots.now.slots c.find.result c.requires.trees c.requires.from c.find.ensures.at

pub expand-requires-clause-within : goal.expand-requires-clause-within
expand-requires-clause-within c k r t there strong target =
    let live = strong_lives c.args.store.now c.args.from c.args.slots.now.slots c.find.result c.requires.from c.find.ensures.at c.requires.aimed
    k r t there strong target in
    omega (arith, c.requires.below t live, c.clear.ensures.length, c.requires.marks)

pub loop-next-init : goal.loop-next-init
loop-next-init c =
    let block = (named_in c.args.store.now c.find.result).block in
    let found = found_slot c.args.store.now c.args.from c.args.slots.now.slots c.find.result c.requires.from c.find.ensures.at in
    record {
      reaching = reach_begins (map (named_in c.args.store.now) c.args.slots.now.slots) c.args.from block c.clear.new.self.marks.items
          c.expand.new.self.marks.items c.expand.new.self.queue.items found c.clear.ensures.clear
          (subst (λ q. IsExpanded (refs block.node) c.clear.new.self.marks.items q c.expand.new.self.marks.items c.expand.new.self.queue.items)
          c.clear.ensures.queue c.expand.ensures.expanded);
      len = c.expand.ensures.expanded.len ∙ c.clear.ensures.length ∙ c.requires.marks;
      marks_room = c.expand.ensures.marks_room ∙ c.clear.ensures.marks_room;
      queue_room = c.expand.ensures.queue_room ∙ c.clear.ensures.queue_room;
    }

pub find-requires-in-loop-next : goal.find-requires-in-loop-next
find-requires-in-loop-next c =
    let s : slice_get c.loop-next.self.queue.items c.loop-next.next ≡ Some c.index-name.result.now =
    slice_get_read c.loop-next.self.queue.items (length c.loop-next.self.queue.items) c.loop-next.next c.index-name.result.now refl
    (omega (arith, c.len.ensures, c.loop-next.self.queue.ok.0)) c.index-name.ensures in
    placed c.args.store.now c.index-name.result.now c.args.slots.now.slots
    (reached_lives (map (named_in c.args.store.now) c.args.slots.now.slots) c.requires.aimed c.args.from c.index-name.result.now
    (c.loop-next.invariant.reaching.queued c.loop-next.next c.index-name.result.now s))

pub expand-requires-in-loop-next-clause-live : goal.expand-requires-in-loop-next-clause-live
expand-requires-in-loop-next-clause-live c =
    let s : slice_get c.loop-next.self.queue.items c.loop-next.next ≡ Some c.index-name.result.now =
    slice_get_read c.loop-next.self.queue.items (length c.loop-next.self.queue.items) c.loop-next.next c.index-name.result.now refl
    (omega (arith, c.len.ensures, c.loop-next.self.queue.ok.0)) c.index-name.ensures in
    let live = reached_lives (map (named_in c.args.store.now) c.args.slots.now.slots) c.requires.aimed c.args.from c.index-name.result.now
    (c.loop-next.invariant.reaching.queued c.loop-next.next c.index-name.result.now s) in
    slot_lives c.args.store.now c.index-name.result.now c.args.slots.now.slots c.find-in-loop-next.result c.requires.trees live
    c.find-in-loop-next.ensures.at

pub expand-requires-in-loop-next-clause-within : goal.expand-requires-in-loop-next-clause-within
expand-requires-in-loop-next-clause-within c k r t there strong target =
    let s : slice_get c.loop-next.self.queue.items c.loop-next.next ≡ Some c.index-name.result.now =
    slice_get_read c.loop-next.self.queue.items (length c.loop-next.self.queue.items) c.loop-next.next c.index-name.result.now refl
    (omega (arith, c.len.ensures, c.loop-next.self.queue.ok.0)) c.index-name.ensures in
    let live = reached_lives (map (named_in c.args.store.now) c.args.slots.now.slots) c.requires.aimed c.args.from c.index-name.result.now
    (c.loop-next.invariant.reaching.queued c.loop-next.next c.index-name.result.now s) in
    let target_lives = strong_lives c.args.store.now c.index-name.result.now c.args.slots.now.slots c.find-in-loop-next.result live
    c.find-in-loop-next.ensures.at c.requires.aimed k r t there strong target in
    omega (arith, c.requires.below t target_lives, c.loop-next.invariant.len)

pub expand-requires-in-loop-next-clause-room : goal.expand-requires-in-loop-next-clause-room
expand-requires-in-loop-next-clause-room c =
    omega (arith, c.loop-next.invariant.reaching.count, c.loop-next.invariant.len, c.requires.room, c.loop-next.invariant.queue_room)

pub loop-next-preserved : goal.loop-next-preserved
loop-next-preserved c =
    let s : slice_get c.loop-next.self.queue.items c.loop-next.next ≡ Some c.index-name.result.now =
    slice_get_read c.loop-next.self.queue.items (length c.loop-next.self.queue.items) c.loop-next.next c.index-name.result.now refl
    (omega (arith, c.len.ensures, c.loop-next.self.queue.ok.0)) c.index-name.ensures in
    let live = reached_lives (map (named_in c.args.store.now) c.args.slots.now.slots) c.requires.aimed c.args.from c.index-name.result.now
    (c.loop-next.invariant.reaching.queued c.loop-next.next c.index-name.result.now s) in
    let found = found_slot c.args.store.now c.index-name.result.now c.args.slots.now.slots c.find-in-loop-next.result live
    c.find-in-loop-next.ensures.at in
    record {
      reaching = reach_goes_on (map (named_in c.args.store.now) c.args.slots.now.slots) c.args.from (named_in c.args.store.now c.find-in-loop-next.result).block
          c.loop-next.self.marks.items c.loop-next.self.queue.items c.expand-in-loop-next.new.self.marks.items
          c.expand-in-loop-next.new.self.queue.items c.loop-next.next c.index-name.result.now c.loop-next.invariant.reaching s found
          c.expand-in-loop-next.ensures.expanded;
      len = c.expand-in-loop-next.ensures.expanded.len ∙ c.loop-next.invariant.len;
      marks_room = c.expand-in-loop-next.ensures.marks_room ∙ c.loop-next.invariant.marks_room;
      queue_room = c.expand-in-loop-next.ensures.queue_room ∙ c.loop-next.invariant.queue_room;
    }

pub returns-clause-reached : goal.returns-clause-reached
returns-clause-reached c =
    reach_ends (map (named_in c.args.store.now) c.args.slots.now.slots) c.args.from c.loop-next.self.marks.items c.loop-next.self.queue.items
    c.loop-next.next c.loop-next.invariant.reaching (omega (arith, c.len.ensures, c.loop-next.self.queue.ok.0))
