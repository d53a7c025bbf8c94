use Rattle.std.proofs.Common.{◌≡◌, arith, ◌∙◌, Some, slice_get, sym}
use Rattle.nif_cells.specs.Encoding.{contents, places_from}
use Rattle.nif_cells.specs.Reading.{tree_in}
use Rattle.nif_value.proofs.Live.{with_references, same-place, reference-says, not-reference}
use Rattle.nif_value.proofs.stores.Store.ref_at.Goals as goal

pub get-requires : goal.get-requires
get-requires c =
    let t = with_references c.self.inside.region.runs c.args.tree.run.key c.args.k c.self.invariant.trees (rw (← c.self.view_is) at c.requires) in
    let p : slice_get (places_from 0 (contents (tree_in t.there.cells))) c.args.k ≡ Some c.place_of.result = rw (← c.self.view_is, t.there.node_found) at c.place_of.ensures in
    let e = same-place t c.place_of.result p in
    rw t.there.found (omega (arith, t.referred.less))

pub returns : goal.returns
returns c =
    let t = with_references c.self.inside.region.runs c.args.tree.run.key c.args.k c.self.invariant.trees (rw (← c.self.view_is) at c.requires) in
    let p : slice_get (places_from 0 (contents (tree_in t.there.cells))) c.args.k ≡ Some c.place_of.result = rw (← c.self.view_is, t.there.node_found) at c.place_of.ensures in
    rw (← c.self.view_is, t.there.node_found) (reference-says t _ _ _ p (rw t.there.found at c.get.ensures) (sym c.of.ensures ∙ c.in-Reference.is))

pub unreachable-requires : goal.unreachable-requires
unreachable-requires c =
    let t = with_references c.self.inside.region.runs c.args.tree.run.key c.args.k c.self.invariant.trees (rw (← c.self.view_is) at c.requires) in
    let p : slice_get (places_from 0 (contents (tree_in t.there.cells))) c.args.k ≡ Some c.place_of.result = rw (← c.self.view_is, t.there.node_found) at c.place_of.ensures in
    not-reference t c.place_of.result c.get.result c.of.result p (rw t.there.found at c.get.ensures) c.of.ensures c.in_default.not-Reference
