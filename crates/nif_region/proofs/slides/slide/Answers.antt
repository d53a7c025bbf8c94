use Rattle.std.proofs.Common.{◌+◌, ◌-◌, ◌≤◌, ◌∷◌, take, ap, ◌∙◌, refl, arith}
use Rattle.std.specs.Option.{is_some}
use Rattle.nif_region.proofs.Slid.{next, sliding-init, length-sliding, live-segment, dead-segment, has_its_place, moved, passed, slid}
use Rattle.nif_region.proofs.slides.slide.Goals as goal

pub loop-from-init : goal.loop-from-init
loop-from-init c = record {
  sliding = sliding-init c.args.building c.args.cells.now.items c.args.places.now _ c.requires (ap (λ n. n - c.args.building) (c.len.ensures ∙ c.args.cells.now.ok.0));
  capacity = refl;
}

pub copy_within-requires-clause-in_bounds : goal.copy_within-requires-clause-in_bounds
copy_within-requires-clause-in_bounds c =
    let n = next c.loop-from.invariant.sliding c.index-head.result.now c.loop-from-test.true c.index-head.ensures in
    let w = n.within in
    let l = length-sliding c.loop-from.invariant.sliding in
    omega (arith, c.loop-from.cells.ok.0)

pub copy_within-requires-clause-dest_in_bounds : goal.copy_within-requires-clause-dest_in_bounds
copy_within-requires-clause-dest_in_bounds c =
    let n = next c.loop-from.invariant.sliding c.index-head.result.now c.loop-from-test.true c.index-head.ensures in
    let w = n.within in
    let l = length-sliding c.loop-from.invariant.sliding in
    let f = c.loop-from.invariant.sliding.from_is in
    let fits : c.loop-from.to + (c.loop-from.from + c.index-head.result.now.size + 1 - c.loop-from.from) ≤ c.loop-from.cells.len = omega (arith, c.loop-from.cells.ok.0) in
    fits

pub move_place-requires : goal.move_place-requires
move_place-requires c =
    let n = next c.loop-from.invariant.sliding c.index-head.result.now c.loop-from-test.true c.index-head.ensures in
    let live = live-segment n.segment c.index-head.result.now n.first_is c.if-head-eq-LIVE.true in
    ap is_some (has_its_place c.loop-from.invariant.sliding c.index-head.result.now.bits live.0 n.more (n.is ∙ ap (λ s. s ∷ n.more) live.1))

pub loop-from-preserved-then-head-eq-LIVE : goal.loop-from-preserved-then-head-eq-LIVE
loop-from-preserved-then-head-eq-LIVE c =
    let n = next c.loop-from.invariant.sliding c.index-head.result.now c.loop-from-test.true c.index-head.ensures in
    let live = live-segment n.segment c.index-head.result.now n.first_is c.if-head-eq-LIVE.true in
    let size = live.2 in
    record {
      sliding =
          moved c.loop-from.invariant.sliding c.index-head.result.now.bits live.0 n.more (n.is ∙ ap (λ s. s ∷ n.more) live.1) _ _ _ _ (omega arith) (omega arith) c.copy_within.ensures.items c.move_place.ensures.moved c.move_place.ensures.others c.move_place.ensures.len c.move_place.ensures.capacity;
      capacity = c.copy_within.ensures.capacity ∙ c.loop-from.invariant.capacity;
    }

pub loop-from-preserved : goal.loop-from-preserved
loop-from-preserved c =
    let n = next c.loop-from.invariant.sliding c.index-head.result.now c.loop-from-test.true c.index-head.ensures in
    let dead = dead-segment n.segment c.index-head.result.now n.first_is c.if-head-eq-LIVE.false in
    let size = dead.2 in
    record {
      sliding = passed c.loop-from.invariant.sliding dead.0 n.more (n.is ∙ ap (λ s. s ∷ n.more) dead.1) _ (omega arith);
      capacity = c.loop-from.invariant.capacity;
    }

pub returns-clause-slides : goal.returns-clause-slides
returns-clause-slides c =
    slid c.loop-from.invariant.sliding c.loop-from-test.false c.len-len.result (c.len-len.ensures ∙ c.loop-from.cells.ok.0) c.truncate.new.self.items (c.truncate.ensures.items ∙ ap (λ l. take (c.loop-from.to + c.args.building) l) c.copy_within-2.ensures.items)
