use Rattle.std.proofs.Common.{false, true, ℕ, ◌≡◌, List, length, vec_capacity, Some, None, Option, sym, ap, ◌∙◌, refl, arith}
use Rattle.std.specs.Option.{option_map, is_some}
use Rattle.std.proofs.lemmas.Bool.{false≢true}
use Rattle.nif_region.specs.Contents.{find, cells_built}
use Rattle.nif_region.specs.declared.cells.Cell.{Cell}
use Rattle.nif_cells.specs.Reading.{tree_in}
use Rattle.nif_value.specs.Kept.{building_of}
use Rattle.nif_value.proofs.Live.{some_live, there, cells-few, cells-within, tree-known}
use Rattle.nif_value.proofs.Ending.{fresh-trees, one-more, others-stay, spare-falls, spare-there}
use Rattle.nif_value.proofs.stores.Store.copy.Goals as goal

none_built : (left bits : ℕ) (o : Option (List Cell)) → option_map (building_of left bits) o ≡ None → o ≡ None
none_built left bits None e = refl
none_built left bits (Some cells) e = absurd (cc)

pub len-len-requires : goal.len-len-requires
len-len-requires c = some_live c.self.inside.region.runs c.args.tree.run.key (rw (← c.self.view_is) at c.requires.live)

pub overflow_add-len : goal.overflow_add-len
overflow_add-len c =
    let t = there c.self.inside.region.runs c.args.tree.run.key c.self.invariant.trees (rw (← c.self.view_is) at c.requires.live) in
    let e : c.len-len.result ≡ length t.cells = rw t.found at c.len-len.ensures in
    let f = cells-few t.cells t.tree in
    omega arith

pub returns-in_err-reserve-clause-succeeds : goal.returns-in_err-reserve-clause-succeeds
returns-in_err-reserve-clause-succeeds c =
    let t = there c.self.inside.region.runs c.args.tree.run.key c.self.invariant.trees (rw (← c.self.view_is) at c.requires.live) in
    let e : c.len-len.result ≡ length t.cells = rw t.found at c.len-len.ensures in
    let w = cells-within t.cells t.tree in
    let none = none_built c.self.inside.packing.left c.self.inside.packing.bits c.self.inside.region.building (rw (← c.self.view_is) at c.requires.building) in
    rw (← c.self.view_is, t.node_found) (λ less runs.
    let s = spare-there c.self.inside.region _ _ _ none less in
    let ok : false ≡ true = c.in_err-reserve.ensures.succeeds (omega arith) runs in
    absurd (false≢true ok))

pub copy_run-requires-clause-live : goal.copy_run-requires-clause-live
copy_run-requires-clause-live c =
    let t = there c.self.inside.region.runs c.args.tree.run.key c.self.invariant.trees (rw (← c.self.view_is) at c.requires.live) in
    let e : c.len-len.result ≡ length t.cells = rw t.found at c.len-len.ensures in
    rw (c.in_ok-reserve.ensures.runs, t.found) (sym e)

pub copy_run-requires-clause-few : goal.copy_run-requires-clause-few
copy_run-requires-clause-few c =
    let t = there c.self.inside.region.runs c.args.tree.run.key c.self.invariant.trees (rw (← c.self.view_is) at c.requires.live) in
    let e : c.len-len.result ≡ length t.cells = rw t.found at c.len-len.ensures in
    let f = cells-few t.cells t.tree in
    omega arith

pub close_run-requires : goal.close_run-requires
close_run-requires c =
    let t = there c.self.inside.region.runs c.args.tree.run.key c.self.invariant.trees (rw (← c.self.view_is) at c.requires.live) in
    ap is_some (c.copy_run.ensures.building ∙ ap (λ r. find r c.args.tree.run.key) c.in_ok-reserve.ensures.runs ∙ t.found)

pub returns-clause-fresh : goal.returns-clause-fresh
returns-clause-fresh c = rw (← c.self.view_is) (fresh-trees c.self.inside.region.runs c.copy_run.new.region.runs c.close_run.result.key (c.copy_run.ensures.runs ∙ c.in_ok-reserve.ensures.runs) c.close_run.ensures.fresh)

pub returns-clause-trees : goal.returns-clause-trees
returns-clause-trees c =
    let t = there c.self.inside.region.runs c.args.tree.run.key c.self.invariant.trees (rw (← c.self.view_is) at c.requires.live) in
    let is = c.copy_run.ensures.building ∙ ap (λ r. find r c.args.tree.run.key) c.in_ok-reserve.ensures.runs ∙ t.found in
    rw (← c.self.view_is, t.node_found) (
    one-more c.self.inside.region.runs c.copy_run.new.region.runs c.close_run.new.self.runs c.close_run.result.key c.copy_run.new.region.building t.cells (tree_in t.cells) (c.copy_run.ensures.runs ∙ c.in_ok-reserve.ensures.runs) is refl c.close_run.ensures.runs)

pub returns-clause-tree : goal.returns-clause-tree
returns-clause-tree c =
    let t = there c.self.inside.region.runs c.args.tree.run.key c.self.invariant.trees (rw (← c.self.view_is) at c.requires.live) in
    let is = c.copy_run.ensures.building ∙ ap (λ r. find r c.args.tree.run.key) c.in_ok-reserve.ensures.runs ∙ t.found in
    rw (← c.self.view_is, t.node_found) (tree-known c.close_run.new.self.runs c.close_run.result.key t.cells (c.close_run.ensures.run ∙ is))

pub returns-clause-others : goal.returns-clause-others
returns-clause-others c = rw (← c.self.view_is) (λ key ne. others-stay c.self.inside.region.runs c.copy_run.new.region.runs c.close_run.new.self.runs c.close_run.result.key key (c.copy_run.ensures.runs ∙ c.in_ok-reserve.ensures.runs) (c.close_run.ensures.others key ne))

pub returns-clause-spare : goal.returns-clause-spare
returns-clause-spare c =
    let t = there c.self.inside.region.runs c.args.tree.run.key c.self.invariant.trees (rw (← c.self.view_is) at c.requires.live) in
    let e : c.len-len.result ≡ length t.cells = rw t.found at c.len-len.ensures in
    let w = cells-within t.cells t.tree in
    let none = none_built c.self.inside.packing.left c.self.inside.packing.bits c.self.inside.region.building (rw (← c.self.view_is) at c.requires.building) in
    let was = ap cells_built none in
    let now = ap cells_built c.close_run.ensures.building in
    rw (← c.self.view_is, t.node_found) (
    spare-falls c.self.inside.region c.close_run.new.self (vec_capacity c.self.inside.open) (vec_capacity c.self.inside.references) (vec_capacity c.self.inside.references) _ (omega arith)
    (omega (arith, c.in_ok-reserve.ensures.spare.cells_left, c.copy_run.ensures.spare_cells, c.close_run.ensures.spare.cells_left)))
