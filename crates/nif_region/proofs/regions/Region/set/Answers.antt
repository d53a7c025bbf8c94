use Rattle.std.proofs.Common.{◌≡◌, ◌+◌, ◌<◌, length, ap, ◌∙◌, arith, set}
use Rattle.nif_region.specs.Contents.{find, put}
use Rattle.nif_region.specs.Layout.{runs_in, built_in, layout, IsKept}
use Rattle.nif_region.specs.RunLaws.{find-put_same, find-put_other}
use Rattle.nif_region.proofs.Layouts.{standing}
use Rattle.nif_region.proofs.Changes.{bounded}
use Rattle.nif_region.proofs.Standing.{the_run, has_place, IsHeld, held, held-within, kept-set, runs-set, same_built-set}
use Rattle.nif_region.proofs.regions.Region.set.Goals as goal

pub index-first-requires : goal.index-first-requires
index-first-requires c =
    let r = the_run _ _ (rw (← c.self.view_is) at c.requires) in
    has_place (standing c.self.inside.building c.self.inside.cells.items c.self.inside.places c.args.run.key r.0 c.self.invariant.laid r.1)

here : (c : goal.After-index_mut-arg-1) → IsHeld c.self.inside.building c.self.inside.cells.items c.self.inside.places c.args.run.key c.index-first.result.now c.args.place
here c = held _ _ _ _ _ _ c.self.invariant.laid (rw (← c.self.view_is) at c.requires) c.index-first.ensures

within : (c : goal.After-index_mut-arg-1) → c.index-first.result.now + 1 + c.args.place < c.self.inside.cells.len
within c = let w = held-within _ _ _ _ _ _ (here c) in omega (arith, c.self.inside.cells.ok.0)

pub overflow_add-first : goal.overflow_add-first
overflow_add-first c = let w = within c in omega (arith, c.self.inside.cells.ok, c.self.inside.cells.small)

pub overflow_add-first-2 : goal.overflow_add-first-2
overflow_add-first-2 c = let w = within c in omega (arith, c.self.inside.cells.ok, c.self.inside.cells.small)

pub index_mut-requires : goal.index_mut-requires
index_mut-requires c = within c

there : (c : goal.After-self-1) → IsHeld c.self.inside.building c.self.inside.cells.items c.self.inside.places c.args.run.key c.index-first.result.now c.args.place
there c = held _ _ _ _ _ _ c.self.invariant.laid (rw (← c.self.view_is) at c.requires) c.index-first.ensures

place : (c : goal.After-self-1) → set c.self.inside.cells.items (c.index-first.result.now + 1 + c.args.place) c.args.cell ≡ set c.self.inside.cells.items (length (layout (there c).stands.before) + 1 + c.args.place) c.args.cell
place c = ap (λ n. set c.self.inside.cells.items (n + 1 + c.args.place) c.args.cell) (there c).is

kept : (c : goal.After-self-1) → IsKept (set c.self.inside.cells.items (c.index-first.result.now + 1 + c.args.place) c.args.cell) c.self.inside.places c.self.inside.live c.self.inside.building
kept c = rw (place c) (kept-set (there c).stands c.self.inside.live c.args.place c.args.cell (there c).less c.self.invariant)

runs : (c : goal.After-self-1) → runs_in c.self.inside.building (set c.self.inside.cells.items (c.index-first.result.now + 1 + c.args.place) c.args.cell) ≡ put c.args.run.key (set (there c).run c.args.place c.args.cell) (runs_in c.self.inside.building c.self.inside.cells.items)
runs c = ap (runs_in c.self.inside.building) (place c) ∙ runs-set (there c).stands c.args.place c.args.cell (there c).less

pub invariant_of-self : goal.invariant_of-self
invariant_of-self c = kept c

pub returns-clause-runs : goal.returns-clause-runs
returns-clause-runs c = rw (← c.self.view_is, (there c).there) (runs c)

pub returns-clause-run : goal.returns-clause-run
returns-clause-run c =
    rw (← c.self.view_is, (there c).there) (
    ap (λ r. find r c.args.run.key) (runs c)
    ∙ find-put_same c.args.run.key (set (there c).run c.args.place c.args.cell) (there c).run (runs_in c.self.inside.building c.self.inside.cells.items) (there c).there
    )

pub returns-clause-others : goal.returns-clause-others
returns-clause-others c =
    rw (← c.self.view_is) (λ key ne.
    ap (λ r. find r key) (runs c)
    ∙ find-put_other c.args.run.key key (set (there c).run c.args.place c.args.cell) (runs_in c.self.inside.building c.self.inside.cells.items) ne)

pub returns-clause-building : goal.returns-clause-building
returns-clause-building c =
    rw (← c.self.view_is) (ap (built_in c.self.inside.building) (place c) ∙ same_built-set (there c).stands c.args.place c.args.cell (there c).less)

pub returns-clause-bounded : goal.returns-clause-bounded
returns-clause-bounded c = bounded (kept c) 0
