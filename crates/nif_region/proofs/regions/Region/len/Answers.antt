use Rattle.std.proofs.Common.{ℕ, ◌≡◌, ◌<◌, List, length, Some, ap, ◌∙◌, arith, get_or}
use Rattle.std.specs.Prelude.{IsSome}
use Rattle.slab.specs.Slab.{Slab, get}
use Rattle.nif_region.specs.Contents.{find}
use Rattle.nif_region.specs.Layout.{IsLaid, Live, runs_in, layout, head}
use Rattle.nif_region.specs.declared.cells.Cell.{Cell}
use Rattle.nif_region.proofs.Layouts.{standing}
use Rattle.nif_region.proofs.Standing.{some_run, live_has_place, the_place, run-within, head-read}
use Rattle.nif_region.proofs.regions.Region.len.Goals as goal

pub index-place-requires : goal.index-place-requires
index-place-requires c =
    live_has_place c.self.inside.building c.self.inside.cells.items c.self.inside.places c.args.run.key c.self.invariant.laid (rw (← c.self.view_is) at c.requires)

stood : (building : ℕ) (cells : List Cell) (places : Slab ℕ) (key first : ℕ) → IsLaid building cells places → IsSome (find (runs_in building cells) key) → get places key ≡ Some first → (run : List Cell) × (find (runs_in building cells) key ≡ Some run) × (first < length cells) × ((d : Cell) → get_or cells first d ≡ head (Live key run))
stood building cells places key first laid live at_first =
    let r = some_run (find (runs_in building cells) key) live in
    let s = standing building cells places key r.0 laid r.1 in
    let p : first ≡ length (layout s.before) = the_place first (length (layout s.before)) (get places key) at_first s.place in
    let w = run-within s in
    (r.0, r.1, omega arith, λ d. ap (λ n. get_or cells n d) p ∙ head-read s d)

pub index-requires : goal.index-requires
index-requires c =
    let s = stood _ _ _ _ _ c.self.invariant.laid (rw (← c.self.view_is) at c.requires) c.index-place.ensures in
    let l = s.2 in
    omega (arith, c.self.inside.cells.ok.0)

pub returns : goal.returns
returns c =
    let s = stood _ _ _ _ _ c.self.invariant.laid (rw (← c.self.view_is) at c.requires) c.index-place.ensures in
    rw (← c.self.view_is, s.1) (ap (λ d. d.size) (c.index.ensures ∙ s.3 c.index.result.now))
