use Rattle.std.proofs.Common.{◌≡◌, ◌++◌, ◌∷◌, [], length, ◌∙◌, ap, arith, lit<}
use Rattle.slab.specs.Slab.{get}
use Rattle.nif_region.specs.Layout.{layout, IsKept}
use Rattle.nif_region.proofs.Changes.{built-none, pushed-is, pushed-count, kept-last, runs-last, bounded}
use Rattle.nif_region.specs.declared.cells.Cell.{Cell}
use Rattle.nif_region.proofs.regions.Region.open_run.Goals as goal

abbrev blank : Cell
blank = record { kind = 0; size = 0; bits = 0 }

none : (c : goal.After-self-1) → c.self.inside.building ≡ 0
none c = built-none c.self.inside.building c.self.inside.cells.items (ap (λ r. r.building) c.self.view_is ∙ c.requires)

more : (c : goal.After-self-1) → c.push.new.self.items ≡ layout c.self.invariant.laid.ended ++ (c.self.invariant.laid.last ++ blank ∷ [])
more c = c.in-Ok-push.ensures.items ∙ pushed-is c.self.invariant blank

count : (c : goal.After-self-1) → length (c.self.invariant.laid.last ++ blank ∷ []) ≡ 1
count c = let e = pushed-count c.self.invariant blank in let n = none c in omega arith

kept : (c : goal.After-self-1) → IsKept c.push.new.self.items c.reserve.new.self c.self.inside.live 1
kept c =
    let room = c.in-Ok.ensures.room in
    kept-last c.self.invariant _ _ _ 1 (more c) (count c) (λ key. ap (λ s. get s key) c.reserve.ensures.rest_kept) (lit< tt) (omega arith)

pub invariant_of-self-in-Ok-push : goal.invariant_of-self-in-Ok-push
invariant_of-self-in-Ok-push c = kept c

pub returns-in-Ok-push-clause-runs : goal.returns-in-Ok-push-clause-runs
returns-in-Ok-push-clause-runs c = runs-last c.self.invariant _ _ 1 (more c) (count c) ∙ ap (λ r. r.runs) c.self.view_is

pub returns-in-Ok-push-clause-bounded : goal.returns-in-Ok-push-clause-bounded
returns-in-Ok-push-clause-bounded c = bounded (kept c) 0
