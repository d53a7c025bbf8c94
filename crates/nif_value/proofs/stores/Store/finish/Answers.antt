use Rattle.std.proofs.Common.{◌≡◌, ◌++◌, length, vec_capacity, Some, sym, ap, ◌∙◌, refl, arith, subst}
use Rattle.nif_region.specs.Contents.{cells_built}
use Rattle.nif_cells.specs.Encoding.{index_from}
use Rattle.nif_cells.specs.Reading.{tree_in}
use Rattle.nif_value.specs.Kept.{IsTree}
use Rattle.nif_value.specs.Built.{Stands}
use Rattle.nif_value.proofs.Standing.{built-few, built-size, puts-is}
use Rattle.nif_value.proofs.Closing.{IsEnded, ended-of, ended-tree}
use Rattle.nif_value.proofs.Ending.{fresh-trees, one-more, trees-more, others-stay, spare-falls}
use Rattle.nif_value.proofs.Live.{tree-known}
use Rattle.nif_cells.specs.CellLaws.{index-length}
use Rattle.nif_value.proofs.stores.Store.finish.Goals as goal

pub put_index-requires : goal.put_index-requires
put_index-requires c =
    let t = ended-of c.self.inside.region _ _ _ _ _ _ c.self.invariant.built (rw (← c.self.view_is) at c.requires) in
    let f = built-few t.built in
    let e = ap length c.deref.ensures.value in
    record { before = t.cells; is = t.was; few = omega arith; room = omega (arith, t.built.room) }

-- the cells of the tree
tree : (c : goal.After-close_run) → (t : IsEnded c.self.inside.region c.self.inside.open.items c.self.inside.references.items c.self.inside.pushed c.self.inside.packing.left c.self.inside.packing.bits (vec_capacity c.self.inside.open))
    → IsTree (t.cells ++ c.put_index.ensures.cells) × (tree_in (t.cells ++ c.put_index.ensures.cells) ≡ t.tree)
tree c t = ended-tree t.built c.put_index.ensures.cells (c.put_index.ensures.says ∙ ap (index_from 0) c.deref.ensures.value)

pub invariant_of-self : goal.invariant_of-self
invariant_of-self c =
    let t = ended-of c.self.inside.region _ _ _ _ _ _ c.self.invariant.built (rw (← c.self.view_is) at c.requires) in
    let is = puts-is t.cells c.put_index.ensures t.was in
    record {
      trees = trees-more c.self.inside.region.runs c.put_index.new.region.runs c.close_run.new.self.runs c.close_run.result.key (t.cells ++ c.put_index.ensures.cells) c.self.invariant.trees c.put_index.ensures.same_runs (c.close_run.ensures.run ∙ is) (tree c t).0 c.close_run.ensures.others;
      built = subst (λ o. Stands o c.self.inside.open.items c.clear.new.self.items 0 c.self.inside.packing.left c.self.inside.packing.bits c.close_run.new.self.spare_cells (vec_capacity c.self.inside.open)) (sym c.close_run.ensures.building) (
        t.built.levels_are,
        c.clear.ensures.items,
        refl,
        t.built.left_is,
        t.built.bits_are,
      );
    }

pub returns-clause-fresh : goal.returns-clause-fresh
returns-clause-fresh c = rw (← c.self.view_is) (fresh-trees c.self.inside.region.runs c.put_index.new.region.runs c.close_run.result.key c.put_index.ensures.same_runs c.close_run.ensures.fresh)

pub returns-clause-trees : goal.returns-clause-trees
returns-clause-trees c =
    let t = ended-of c.self.inside.region _ _ _ _ _ _ c.self.invariant.built (rw (← c.self.view_is) at c.requires) in
    rw (← c.self.view_is, t.seen) (
    one-more c.self.inside.region.runs c.put_index.new.region.runs c.close_run.new.self.runs c.close_run.result.key c.put_index.new.region.building (t.cells ++ c.put_index.ensures.cells) t.tree c.put_index.ensures.same_runs (puts-is t.cells c.put_index.ensures t.was) (tree c t).1 c.close_run.ensures.runs)

pub returns-clause-tree : goal.returns-clause-tree
returns-clause-tree c =
    let t = ended-of c.self.inside.region _ _ _ _ _ _ c.self.invariant.built (rw (← c.self.view_is) at c.requires) in
    rw (← c.self.view_is, t.seen) (
    tree-known c.close_run.new.self.runs c.close_run.result.key (t.cells ++ c.put_index.ensures.cells) (c.close_run.ensures.run ∙ puts-is t.cells c.put_index.ensures t.was) ∙ ap Some (tree c t).1)

pub returns-clause-others : goal.returns-clause-others
returns-clause-others c = rw (← c.self.view_is) (λ key ne. others-stay c.self.inside.region.runs c.put_index.new.region.runs c.close_run.new.self.runs c.close_run.result.key key c.put_index.ensures.same_runs (c.close_run.ensures.others key ne))

pub returns-clause-spare : goal.returns-clause-spare
returns-clause-spare c =
    let t = ended-of c.self.inside.region _ _ _ _ _ _ c.self.invariant.built (rw (← c.self.view_is) at c.requires) in
    let s = built-size t.built in
    let n = index-length 0 c.deref.result.now in
    let e = ap length c.deref.ensures.value in
    let was = ap cells_built t.was in
    let now = ap cells_built c.close_run.ensures.building in
    rw (← c.self.view_is, t.seen) (
    spare-falls c.self.inside.region c.close_run.new.self (vec_capacity c.self.inside.open) (vec_capacity c.self.inside.references) (vec_capacity c.clear.new.self) _ (omega (arith, c.clear.ensures.capacity))
    (omega (arith, c.put_index.ensures.spare_cells, c.close_run.ensures.spare.cells_left)))
