use Rattle.std.proofs.Common.{◌≡◌, arith, ap, ◌∙◌, Some, slice_get, slice_set, subst, sym}
use Rattle.std.specs.Prelude.{IfSome}
use Rattle.nif_base.specs.Node.{refs}
use Rattle.nif_region.specs.Contents.{find, put}
use Rattle.nif_cells.specs.Building.{with_target}
use Rattle.nif_cells.specs.Encoding.{contents, places_from}
use Rattle.nif_cells.specs.Reading.{tree_in}
use Rattle.nif_value.specs.Kept.{IsTree, trees_in}
use Rattle.nif_value.specs.Trees.{reference_of}
use Rattle.nif_value.proofs.Live.{with_references, IsWithReference, same-place, targets, trees-put, trees-others, same_live, tree-known}
use Rattle.nif_value.proofs.Standing.{stands-on}
use Rattle.nif_value.proofs.stores.Store.set_ref.Goals as goal

pub set-requires : goal.set-requires
set-requires c =
    let t = with_references c.self.inside.region.runs c.args.tree.run.key c.args.k c.self.invariant.trees (rw (← c.self.view_is) at c.requires.place) in
    let p : slice_get (places_from 0 (contents (tree_in t.there.cells))) c.args.k ≡ Some c.place_of-place.result = rw (← c.self.view_is, t.there.node_found) at c.place_of-place.ensures in
    let e = same-place t c.place_of-place.result p in
    rw t.there.found (omega (arith, t.referred.less))

-- the cells with the reference changed
set : (c : goal.After-set) → (t : IsWithReference c.self.inside.region.runs c.args.tree.run.key c.args.k)
    → IsTree (slice_set t.there.cells c.place_of-place.result c.cell.result) × (tree_in (slice_set t.there.cells c.place_of-place.result c.cell.result) ≡ with_target c.args.k c.args.target (tree_in t.there.cells))
set c t =
    let p : slice_get (places_from 0 (contents (tree_in t.there.cells))) c.args.k ≡ Some c.place_of-place.result = rw (← c.self.view_is, t.there.node_found) at c.place_of-place.ensures in
    let r : slice_get (refs (tree_in t.there.cells)) c.args.k ≡ Some (reference_of c.ref_at-view.result) = rw (← c.self.view_is, t.there.node_found) at c.ref_at-view.ensures in
    targets t c.place_of-place.result c.args.target c.ref_at-view.result c.cell.result p r c.cell.ensures

pub invariant_of-self : goal.invariant_of-self
invariant_of-self c =
    let t = with_references c.self.inside.region.runs c.args.tree.run.key c.args.k c.self.invariant.trees (rw (← c.self.view_is) at c.requires.place) in
    let run : find c.set.new.self.runs c.args.tree.run.key ≡ Some (slice_set t.there.cells c.place_of-place.result c.cell.result) = rw t.there.found at c.set.ensures.run in
    record {
      trees = trees-others c.self.inside.region.runs c.set.new.self.runs c.args.tree.run.key c.self.invariant.trees (subst (λ o. IfSome o IsTree) (sym run) (set c t).0) c.set.ensures.others;
      built = stands-on c.self.inside.region c.set.new.self _ _ _ _ _ _ _ c.self.invariant.built c.set.ensures.building c.set.ensures.spare.cells_left (omega arith);
    }

pub returns-clause-trees : goal.returns-clause-trees
returns-clause-trees c =
    let t = with_references c.self.inside.region.runs c.args.tree.run.key c.args.k c.self.invariant.trees (rw (← c.self.view_is) at c.requires.place) in
    let runs : c.set.new.self.runs ≡ put c.args.tree.run.key (slice_set t.there.cells c.place_of-place.result c.cell.result) c.self.inside.region.runs = rw t.there.found at c.set.ensures.runs in
    rw (← c.self.view_is, t.there.node_found) (
    ap trees_in runs
    ∙ trees-put c.self.inside.region.runs c.args.tree.run.key (slice_set t.there.cells c.place_of-place.result c.cell.result)
    ∙ ap (λ n. put c.args.tree.run.key n (trees_in c.self.inside.region.runs)) (set c t).1)

pub returns-clause-tree : goal.returns-clause-tree
returns-clause-tree c =
    let t = with_references c.self.inside.region.runs c.args.tree.run.key c.args.k c.self.invariant.trees (rw (← c.self.view_is) at c.requires.place) in
    let run : find c.set.new.self.runs c.args.tree.run.key ≡ Some (slice_set t.there.cells c.place_of-place.result c.cell.result) = rw t.there.found at c.set.ensures.run in
    rw (← c.self.view_is, t.there.node_found) (
    tree-known c.set.new.self.runs c.args.tree.run.key (slice_set t.there.cells c.place_of-place.result c.cell.result) run ∙ ap Some (set c t).1)

pub returns-clause-others : goal.returns-clause-others
returns-clause-others c = rw (← c.self.view_is) (λ key ne. same_live _ _ key (c.set.ensures.others key ne))
