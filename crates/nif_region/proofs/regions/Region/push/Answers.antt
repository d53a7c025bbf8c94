use Rattle.std.proofs.Common.{◌≡◌, ◌+◌, ◌-◌, ◌^◌, ◌<◌, ◌≤◌, ◌++◌, ◌∷◌, [], ◌∙◌, ap, refl, arith}
use Rattle.nif_region.specs.Layout.{layout, IsKept}
use Rattle.nif_region.proofs.Changes.{built-within, pushed-is, pushed-count, kept-last, runs-last, bounded, live-within}
use Rattle.nif_region.proofs.regions.Region.push.Goals as goal

within : (c : goal.After-self-1) → (0 < c.self.inside.building) × (c.self.inside.building ≤ 2 ^ 32 - 2)
within c =
    let l = live-within c.self.invariant in
    built-within c.self.inside.building c.self.inside.cells.items (2 ^ 32 - 2) (omega arith) (rw (← ap (λ r. r.building) c.self.view_is) at c.requires)

more : (c : goal.After-self-1) → c.push.new.self.items ≡ layout c.self.invariant.laid.ended ++ (c.self.invariant.laid.last ++ c.args.cell ∷ [])
more c = c.in-Ok.ensures.items ∙ pushed-is c.self.invariant c.args.cell

kept : (c : goal.After-self-1) → IsKept c.push.new.self.items c.self.inside.places c.self.inside.live (c.self.inside.building + 1)
kept c =
    let w = within c in
    let some = w.0 in
    let low = w.1 in
    let room = c.self.invariant.room in
    kept-last c.self.invariant _ _ _ (c.self.inside.building + 1) (more c) (pushed-count c.self.invariant c.args.cell) (λ _. refl) (omega arith) (omega arith)

pub invariant_of-self : goal.invariant_of-self
invariant_of-self c = kept c

pub returns-in-Ok-clause-runs : goal.returns-in-Ok-clause-runs
returns-in-Ok-clause-runs c = runs-last c.self.invariant _ _ (c.self.inside.building + 1) (more c) (pushed-count c.self.invariant c.args.cell) ∙ ap (λ r. r.runs) c.self.view_is

pub returns-in-Ok-clause-bounded : goal.returns-in-Ok-clause-bounded
returns-in-Ok-clause-bounded c = bounded (kept c) 0
