use Rattle.std.proofs.Common.{◌≡◌, ◌+◌, List, length, Option, None, Some, refl, ◌∙◌, ap, arith, slice_get}
use Rattle.std.specs.List.{sum_by}
use Rattle.std.specs.Prelude.{IsSome, IfSome}
use Rattle.std.proofs.lemmas.List.{take_all}
use Rattle.nif_region.specs.Contents.{find}
use Rattle.nif_region.specs.declared.cells.Cell.{Cell}
use Rattle.nif_cells.specs.Codes.{content_of}
use Rattle.nif_value.specs.Counts.{nodes_said}
use Rattle.nif_value.specs.Kept.{IsTree}
use Rattle.nif_value.proofs.Counting.{nodes-tree, counted-more}
use Rattle.nif_value.proofs.counts.count_nodes.Goals as goal

the_tree : (o : Option (List Cell)) → IsSome o → IfSome o IsTree → (cells : List Cell) × (o ≡ Some cells) × IsTree cells
the_tree None some tree = absurd (cc)
the_tree (Some cells) some tree = (cells, refl, tree)

pub loop-place-init : goal.loop-place-init
loop-place-init c = λ cells e. refl

pub get-requires : goal.get-requires
get-requires c =
    let t = the_tree (find c.args.region.now.runs c.args.run.key) c.requires.live c.requires.tree in
    let n : c.len-place-end.result ≡ length t.0 = rw t.1 at c.len-place-end.ensures in
    rw t.1 (omega arith)

pub overflow_add-count : goal.overflow_add-count
overflow_add-count c =
    let t = the_tree (find c.args.region.now.runs c.args.run.key) c.requires.live c.requires.tree in
    let at : slice_get t.0 c.loop-place.place ≡ Some c.get.result = rw t.1 at c.get.ensures in
    let m = counted-more (λ x. nodes_said (content_of x)) t.0 c.loop-place.place c.loop-place.count c.get.result at (c.loop-place.invariant t.0 t.1) in
    let s = nodes-tree t.0 t.2 in
    let e = c.nodes_of-count.ensures ∙ ap nodes_said c.of.ensures in
    omega (arith, t.2.nodes_within, m.1)

pub loop-place-preserved : goal.loop-place-preserved
loop-place-preserved c = λ cells is.
    let at : slice_get cells c.loop-place.place ≡ Some c.get.result = rw is at c.get.ensures in
    let m = counted-more (λ x. nodes_said (content_of x)) cells c.loop-place.place c.loop-place.count c.get.result at (c.loop-place.invariant cells is) in
    let e = c.nodes_of-count.ensures ∙ ap nodes_said c.of.ensures in
    ap (λ n. c.loop-place.count + n) e ∙ m.0

pub returns : goal.returns
returns c =
    let t = the_tree (find c.args.region.now.runs c.args.run.key) c.requires.live c.requires.tree in
    let n : c.len-place-end.result ≡ length t.0 = rw t.1 at c.len-place-end.ensures in
    rw t.1 (c.loop-place.invariant t.0 t.1 ∙ ap (sum_by (λ x. nodes_said (content_of x))) (take_all c.loop-place.place t.0 (omega arith)) ∙ nodes-tree t.0 t.2)
