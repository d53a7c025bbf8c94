use Rattle.std.proofs.Common.{◌≡◌, ◌-◌, ◌++◌, [], take, ◌∙◌, ap, refl, arith, lit<}
use Rattle.nif_region.specs.Layout.{layout, IsKept}
use Rattle.nif_region.proofs.Changes.{dropped-is, kept-last, runs-last, bounded}
use Rattle.nif_region.proofs.regions.Region.abandon.Goals as goal

left : (c : goal.After-self-1) → c.truncate.new.self.items ≡ layout c.self.invariant.laid.ended ++ []
left c =
    c.truncate.ensures.items
    ∙ ap (λ n. take (n - c.self.inside.building) c.self.inside.cells.items) (c.len.ensures ∙ c.self.inside.cells.ok.0)
    ∙ dropped-is c.self.invariant

kept : (c : goal.After-self-1) → IsKept c.truncate.new.self.items c.self.inside.places c.self.inside.live 0
kept c = kept-last c.self.invariant [] _ _ 0 (left c) refl (λ _. refl) (lit< tt) (let room = c.self.invariant.room in omega arith)

pub invariant_of-self : goal.invariant_of-self
invariant_of-self c = kept c

pub returns-clause-runs : goal.returns-clause-runs
returns-clause-runs c = runs-last c.self.invariant [] _ 0 (left c) refl ∙ ap (λ r. r.runs) c.self.view_is

pub returns-clause-bounded : goal.returns-clause-bounded
returns-clause-bounded c = bounded (kept c) 0
