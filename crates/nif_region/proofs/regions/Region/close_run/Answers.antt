use Rattle.std.proofs.Common.{◌≡◌, ◌-◌, ◌<◌, length, ◌∙◌, ap, arith, subst, Some}
use Rattle.std.specs.Option.{is_some}
use Rattle.slab.specs.Slab.{Updates}
use Rattle.nif_region.proofs.Changes.{built-some, live-within, Closes, closes, bounded}
use Rattle.nif_region.proofs.regions.Region.close_run.Goals as goal

length_is : (c : goal.After-self-3-1) → c.len.result ≡ length c.self.inside.cells.items
length_is c = c.len.ensures ∙ c.self.inside.cells.ok.0

some : (c : goal.After-self-3-1) → 0 < c.self.inside.building
some c = built-some c.self.inside.building c.self.inside.cells.items (ap (λ r. is_some r.building) c.self.view_is ∙ c.requires)

done : (c : goal.After-self-3-1) → Closes c.self.invariant c.insert_reserved-key.new.self c.insert_reserved-key.result
done c =
    closes c.self.invariant c.insert_reserved-key.new.self c.insert_reserved-key.result (some c) c.insert_reserved-key.ensures.was_vacant
    (subst (λ n. Updates c.self.inside.places c.insert_reserved-key.new.self c.insert_reserved-key.result (Some (n - c.self.inside.building))) (length_is c) c.insert_reserved-key.ensures.updates)
    c.insert_reserved-key.ensures.len
    c.insert_reserved-key.ensures.capacity

pub overflow_add-self : goal.overflow_add-self
overflow_add-self c = let l = live-within c.self.invariant in omega arith

pub invariant_of-self : goal.invariant_of-self
invariant_of-self c = rw (length_is c) (done c).kept

pub returns-clause-fresh : goal.returns-clause-fresh
returns-clause-fresh c = rw (← c.self.view_is) (done c).fresh

pub returns-clause-runs : goal.returns-clause-runs
returns-clause-runs c = rw (← c.self.view_is, length_is c) (done c).runs

pub returns-clause-run : goal.returns-clause-run
returns-clause-run c = rw (← c.self.view_is, length_is c) (done c).run

pub returns-clause-others : goal.returns-clause-others
returns-clause-others c = rw (← c.self.view_is, length_is c) (done c).others

pub returns-clause-bounded : goal.returns-clause-bounded
returns-clause-bounded c = rw (length_is c) (bounded (done c).kept 0)
