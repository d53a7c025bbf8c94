use Rattle.std.proofs.Common.{◌≡◌, ◌<◌, length, arith, ◌∙◌, sym}
use Rattle.std.specs.Option.{IsSomeAnd}
use Rattle.nif_base.specs.Node.{refs}
use Rattle.nif_region.specs.Contents.{find}
use Rattle.nif_cells.specs.Reading.{tree_in}
use Rattle.nif_value.specs.Kept.{trees_in}
use Rattle.nif_value.proofs.Live.{some_live, some_of, with_references, index-says, not-place}
use Rattle.nif_value.proofs.stores.Store.place_of.Goals as goal

pub len-requires : goal.len-requires
len-requires c =
    let h : IsSomeAnd (find (trees_in c.self.inside.region.runs) c.args.tree.run.key) (λ n. c.args.k < length (refs n)) = rw (← c.self.view_is) at c.requires in
    some_live c.self.inside.region.runs c.args.tree.run.key (some_of (λ n. c.args.k < length (refs n)) (find (trees_in c.self.inside.region.runs) c.args.tree.run.key) h)

pub ref_count-requires : goal.ref_count-requires
ref_count-requires c = some_of (λ n. c.args.k < length (refs n)) (find c.args.self.now.trees c.args.tree.run.key) c.requires

pub overflow_sub-place : goal.overflow_sub-place
overflow_sub-place c =
    let t = with_references c.self.inside.region.runs c.args.tree.run.key c.args.k c.self.invariant.trees (rw (← c.self.view_is) at c.requires) in
    let e : c.len.result ≡ length t.there.cells = rw t.there.found at c.len.ensures in
    let f : c.ref_count.result ≡ length (refs (tree_in t.there.cells)) = rw (← c.self.view_is, t.there.node_found) at c.ref_count.ensures in
    omega (arith, t.parts)

pub overflow_add-place : goal.overflow_add-place
overflow_add-place c =
    let t = with_references c.self.inside.region.runs c.args.tree.run.key c.args.k c.self.invariant.trees (rw (← c.self.view_is) at c.requires) in
    let e : c.len.result ≡ length t.there.cells = rw t.there.found at c.len.ensures in
    let f : c.ref_count.result ≡ length (refs (tree_in t.there.cells)) = rw (← c.self.view_is, t.there.node_found) at c.ref_count.ensures in
    omega (arith, t.parts, t.few, t.less)

pub get-requires : goal.get-requires
get-requires c =
    let t = with_references c.self.inside.region.runs c.args.tree.run.key c.args.k c.self.invariant.trees (rw (← c.self.view_is) at c.requires) in
    let e : c.len.result ≡ length t.there.cells = rw t.there.found at c.len.ensures in
    let f : c.ref_count.result ≡ length (refs (tree_in t.there.cells)) = rw (← c.self.view_is, t.there.node_found) at c.ref_count.ensures in
    rw t.there.found (omega (arith, t.parts, t.less))

pub returns : goal.returns
returns c =
    let t = with_references c.self.inside.region.runs c.args.tree.run.key c.args.k c.self.invariant.trees (rw (← c.self.view_is) at c.requires) in
    let e : c.len.result ≡ length t.there.cells = rw t.there.found at c.len.ensures in
    let f : c.ref_count.result ≡ length (refs (tree_in t.there.cells)) = rw (← c.self.view_is, t.there.node_found) at c.ref_count.ensures in
    rw (← c.self.view_is, t.there.node_found) (index-says t _ _ _ _ _ e f (rw t.there.found at c.get.ensures) (sym c.of.ensures ∙ c.in-Place.is))

pub unreachable-requires : goal.unreachable-requires
unreachable-requires c =
    let t = with_references c.self.inside.region.runs c.args.tree.run.key c.args.k c.self.invariant.trees (rw (← c.self.view_is) at c.requires) in
    let e : c.len.result ≡ length t.there.cells = rw t.there.found at c.len.ensures in
    let f : c.ref_count.result ≡ length (refs (tree_in t.there.cells)) = rw (← c.self.view_is, t.there.node_found) at c.ref_count.ensures in
    not-place t c.len.result c.ref_count.result c.get.result c.of.result e f (rw t.there.found at c.get.ensures) c.of.ensures c.in_default.not-Place
