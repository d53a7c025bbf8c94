use Rattle.std.proofs.Common.{◌+◌, ◌-◌, refl, ap, ◌∙◌, arith, set}
use Rattle.nif_region.specs.Contents.{cells_of, cells_built}
use Rattle.nif_region.specs.Layout.{IsKept}
use Rattle.nif_region.proofs.Changes.{bounded}
use Rattle.nif_region.proofs.Standing.{live_has_place, first-within, IsGiven, given-back, kept-slid}
use Rattle.nif_region.proofs.regions.Region.give_back.Goals as goal

pub remove-place-requires : goal.remove-place-requires
remove-place-requires c = live_has_place _ _ _ _ c.self.invariant.laid (rw (← c.self.view_is) at c.requires)

pub index-requires : goal.index-requires
index-requires c =
    let w = first-within _ _ _ _ _ c.self.invariant.laid (rw (← c.self.view_is) at c.requires) c.remove-place.ensures.value in
    omega (arith, c.self.inside.cells.ok.0)

pub index_mut-requires : goal.index_mut-requires
index_mut-requires c =
    let w = first-within _ _ _ _ _ c.self.invariant.laid (rw (← c.self.view_is) at c.requires) c.remove-place.ensures.value in
    omega (arith, c.self.inside.cells.ok.0)

pub overflow_sub-self : goal.overflow_sub-self
overflow_sub-self c =
    (given-back c.self.invariant c.args.run.key c.remove-place.result c.index.result.now _ _ (rw (← c.self.view_is) at c.requires) c.remove-place.ensures.value c.index.ensures refl c.remove-place.ensures.updates).less

pub overflow_sub-len-2 : goal.overflow_sub-len-2
overflow_sub-len-2 c =
    let g = given-back c.self.invariant c.args.run.key c.remove-place.result c.index.result.now _ _ (rw (← c.self.view_is) at c.requires) c.remove-place.ensures.value c.index.ensures refl c.remove-place.ensures.updates in
    let count = g.count in
    omega (arith, c.len.ensures, c.self.inside.cells.ok.0)

pub slide-requires : goal.slide-requires
slide-requires c =
    (given-back c.self.invariant c.args.run.key c.remove-place.result c.index.result.now _ _ (rw (← c.self.view_is) at c.requires) c.remove-place.ensures.value c.index.ensures refl c.remove-place.ensures.updates).laid

-- with a slide

gone : (c : goal.After-slide) → IsGiven c.self.inside.building c.self.inside.cells.items c.self.inside.live c.args.run.key c.index.result.now.size (set c.self.inside.cells.items c.remove-place.result (record { kind = 0; size = c.index.result.now.size; bits = 0 })) c.remove-place.new.self
gone c =
    given-back c.self.invariant c.args.run.key c.remove-place.result c.index.result.now _ _ (rw (← c.self.view_is) at c.requires) c.remove-place.ensures.value c.index.ensures refl c.remove-place.ensures.updates

kept : (c : goal.After-slide) → IsKept c.slide.new.cells.items c.slide.new.places (c.self.inside.live - (c.index.result.now.size + 1)) c.self.inside.building
kept c =
    let room = c.self.invariant.room in
    let keys = c.remove-place.ensures.len in
    let places = c.remove-place.ensures.capacity in
    kept-slid _ _ _ _ _ _ (gone c).live_are c.slide.ensures.slides c.self.invariant.fits (omega arith)

pub invariant_of-self : goal.invariant_of-self
invariant_of-self c = kept c

pub returns-then-len-self-clause-runs : goal.returns-then-len-self-clause-runs
returns-then-len-self-clause-runs c = rw (← c.self.view_is) (c.slide.ensures.slides.same_runs ∙ (gone c).runs)

pub returns-then-len-self-clause-gone : goal.returns-then-len-self-clause-gone
returns-then-len-self-clause-gone c = rw c.slide.ensures.slides.same_runs (gone c).gone

pub returns-then-len-self-clause-others : goal.returns-then-len-self-clause-others
returns-then-len-self-clause-others c = rw (← c.self.view_is, c.slide.ensures.slides.same_runs) (gone c).others

pub returns-then-len-self-clause-building : goal.returns-then-len-self-clause-building
returns-then-len-self-clause-building c = rw (← c.self.view_is) (c.slide.ensures.slides.same_building ∙ (gone c).same_built)

pub returns-then-len-self-clause-stays : goal.returns-then-len-self-clause-stays
returns-then-len-self-clause-stays c =
    let g = gone c in
    let live = g.live_are in
    let built = g.built_count in
    let same_runs = ap cells_of c.slide.ensures.slides.same_runs in
    let same_built = ap cells_built c.slide.ensures.slides.same_building in
    let more = c.if-len-self.true in
    let l = c.len.ensures in
    rw (← c.self.view_is) (λ few. absurd (omega (arith, c.self.inside.cells.ok.0, few, g.same_length, g.count)))

pub returns-then-len-self-clause-spare : goal.returns-then-len-self-clause-spare
returns-then-len-self-clause-spare c =
    let g = gone c in
    let live = g.live_are in
    let count = g.count in
    let slides = c.slide.ensures.slides in
    let compact = slides.compact in
    let keys = slides.same_keys in
    let places = slides.same_capacity in
    let cells = c.slide.ensures.capacity in
    let room = c.self.invariant.room in
    let removed = c.remove-place.ensures.len in
    let capacity = c.remove-place.ensures.capacity in
    rw (← c.self.view_is) (record { cells_more = omega arith; runs_more = omega arith })

-- without

gone_else : (c : goal.Else-len-self) → IsGiven c.self.inside.building c.self.inside.cells.items c.self.inside.live c.args.run.key c.index.result.now.size (set c.self.inside.cells.items c.remove-place.result (record { kind = 0; size = c.index.result.now.size; bits = 0 })) c.remove-place.new.self
gone_else c =
    given-back c.self.invariant c.args.run.key c.remove-place.result c.index.result.now _ _ (rw (← c.self.view_is) at c.requires) c.remove-place.ensures.value c.index.ensures refl c.remove-place.ensures.updates

kept_else : (c : goal.Else-len-self) → IsKept (set c.self.inside.cells.items c.remove-place.result (record { kind = 0; size = c.index.result.now.size; bits = 0 })) c.remove-place.new.self (c.self.inside.live - (c.index.result.now.size + 1)) c.self.inside.building
kept_else c =
    let g = gone_else c in
    let room = c.self.invariant.room in
    let keys = c.remove-place.ensures.len in
    let places = c.remove-place.ensures.capacity in
    let few = c.if-len-self.false in
    let same = g.same_length in
    let count = g.count in
    record {
      laid = g.laid;
      live_are = g.live_are;
      bound = omega (arith, c.len.ensures, c.self.inside.cells.ok.0);
      fits = c.self.invariant.fits;
      room = omega arith;
    }

pub invariant_of-self-else-len-self : goal.invariant_of-self-else-len-self
invariant_of-self-else-len-self c = kept_else c

pub returns-else-len-self-clause-runs : goal.returns-else-len-self-clause-runs
returns-else-len-self-clause-runs c = rw (← c.self.view_is) (gone_else c).runs

pub returns-else-len-self-clause-gone : goal.returns-else-len-self-clause-gone
returns-else-len-self-clause-gone c = (gone_else c).gone

pub returns-else-len-self-clause-others : goal.returns-else-len-self-clause-others
returns-else-len-self-clause-others c = rw (← c.self.view_is) (gone_else c).others

pub returns-else-len-self-clause-building : goal.returns-else-len-self-clause-building
returns-else-len-self-clause-building c = rw (← c.self.view_is) (gone_else c).same_built

pub returns-else-len-self-clause-slides : goal.returns-else-len-self-clause-slides
returns-else-len-self-clause-slides c =
    let g = gone_else c in
    let live = g.live_are in
    let built = g.built_count in
    let few = c.if-len-self.false in
    rw (← c.self.view_is) (λ many. absurd (omega (arith, c.len.ensures, c.self.inside.cells.ok.0, many, g.same_length, g.count)))

pub returns-else-len-self-clause-bounded : goal.returns-else-len-self-clause-bounded
returns-else-len-self-clause-bounded c = bounded (kept_else c) 0
