use Rattle.std.proofs.Common.{◌≡◌, ◌+◌, ◌-◌, ◌<◌, length, ◌∙◌, ap, refl, arith, set, length-set}
use Rattle.nif_region.specs.Contents.{patched}
use Rattle.nif_region.specs.Layout.{IsKept}
use Rattle.nif_region.proofs.Changes.{built-place, patched-is, patched-built, kept-last, live-within}
use Rattle.nif_region.proofs.regions.Region.patch.Goals as goal

length_is : (c : goal.After-self-1) → c.len.result ≡ length c.self.inside.cells.items
length_is c = c.len.ensures ∙ c.self.inside.cells.ok.0

within : (c : goal.After-self-1) → c.args.place + 1 < c.self.inside.building
within c =
    let l = live-within c.self.invariant in
    built-place c.self.inside.building c.self.inside.cells.items c.args.place (omega arith) (rw (← ap (λ r. r.building) c.self.view_is) at c.requires)

kept : (c : goal.After-self-1) → IsKept (set c.self.inside.cells.items (length c.self.inside.cells.items - c.self.inside.building + 1 + c.args.place) c.args.cell) c.self.inside.places c.self.inside.live c.self.inside.building
kept c =
    kept-last c.self.invariant _ _ _ c.self.inside.building (patched-is c.self.invariant c.args.place c.args.cell (within c)) (length-set c.self.invariant.laid.last _ c.args.cell ∙ c.self.invariant.laid.last_are) (λ _. refl) c.self.invariant.fits c.self.invariant.room

pub invariant_of-self : goal.invariant_of-self
invariant_of-self c = rw (length_is c) (kept c)

pub returns-clause-building : goal.returns-clause-building
returns-clause-building c =
    let l = live-within c.self.invariant in
    rw (length_is c) (
    patched-built c.self.inside.building c.self.inside.cells.items c.args.place c.args.cell (omega arith) (within c)
    ∙ ap (λ r. patched r.building c.args.place c.args.cell) c.self.view_is
    )
