use Rattle.std.proofs.Common.{◌≡◌, ◌+◌, ◌<◌, Some, ap, sym, ◌∙◌, arith, get_or}
use Rattle.std.proofs.lemmas.Option.{slice_get-get_or}
use Rattle.nif_region.proofs.Layouts.{standing}
use Rattle.nif_region.proofs.Standing.{the_run, has_place, IsHeld, held, held-within, cell-read}
use Rattle.nif_region.proofs.regions.Region.get.Goals as goal

pub index-head-requires : goal.index-head-requires
index-head-requires c =
    let r = the_run _ _ (rw (← c.self.view_is) at c.requires) in
    has_place (standing c.self.inside.building c.self.inside.cells.items c.self.inside.places c.args.run.key r.0 c.self.invariant.laid r.1)

here : (c : goal.After-row_known-1) → IsHeld c.self.inside.building c.self.inside.cells.items c.self.inside.places c.args.run.key c.index-head.result.now c.args.place
here c = held _ _ _ _ _ _ c.self.invariant.laid (rw (← c.self.view_is) at c.requires) c.index-head.ensures

within : (c : goal.After-row_known-1) → c.index-head.result.now + 1 + c.args.place < c.self.inside.cells.len
within c = let w = held-within _ _ _ _ _ _ (here c) in omega (arith, c.self.inside.cells.ok.0)

pub overflow_add-head : goal.overflow_add-head
overflow_add-head c = let w = within c in omega (arith, c.self.inside.cells.ok, c.self.inside.cells.small)

pub overflow_add-head-2 : goal.overflow_add-head-2
overflow_add-head-2 c = let w = within c in omega (arith, c.self.inside.cells.ok, c.self.inside.cells.small)

pub index-requires : goal.index-requires
index-requires c = within c

pub returns : goal.returns
returns c =
    let h = held _ _ _ _ _ _ c.self.invariant.laid (rw (← c.self.view_is) at c.requires) c.index-head.ensures in
    let read : c.index.result.now ≡ get_or h.run c.args.place c.index.result.now =
    c.index.ensures
    ∙ ap (λ n. get_or c.self.inside.cells.items (n + 1 + c.args.place) c.index.result.now) h.is
    ∙ cell-read h.stands c.args.place c.index.result.now h.less in
    rw (← c.self.view_is, h.there) (slice_get-get_or h.run c.args.place c.index.result.now h.less ∙ ap Some (sym read))
