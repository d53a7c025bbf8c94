use Rattle.std.proofs.Common.{◌≡◌, length, arith, ap, ◌∙◌, Some, sym}
use Rattle.nif_cells.specs.Reading.{tree_in}
use Rattle.nif_value.proofs.Live.{some_live, there, cells-some, last-says, number-is, none-is}
use Rattle.nif_value.proofs.stores.Store.ref_count.Goals as goal

pub len-last-requires : goal.len-last-requires
len-last-requires c = some_live c.self.inside.region.runs c.args.tree.run.key (rw (← c.self.view_is) at c.requires)

pub overflow_sub-last : goal.overflow_sub-last
overflow_sub-last c =
    let t = there c.self.inside.region.runs c.args.tree.run.key c.self.invariant.trees (rw (← c.self.view_is) at c.requires) in
    let e : c.len-last.result ≡ length t.cells = rw t.found at c.len-last.ensures in
    let s = cells-some t.cells t.tree in
    omega arith

pub get-requires : goal.get-requires
get-requires c =
    let t = there c.self.inside.region.runs c.args.tree.run.key c.self.invariant.trees (rw (← c.self.view_is) at c.requires) in
    let e : c.len-last.result ≡ length t.cells = rw t.found at c.len-last.ensures in
    let s = cells-some t.cells t.tree in
    rw t.found (omega arith)

pub returns-in-Place : goal.returns-in-Place
returns-in-Place c =
    let t = there c.self.inside.region.runs c.args.tree.run.key c.self.invariant.trees (rw (← c.self.view_is) at c.requires) in
    let last = last-says t.cells c.len-last.result c.get.result t.tree (rw t.found at c.len-last.ensures) (rw t.found at c.get.ensures) in
    rw (← c.self.view_is, t.node_found) (number-is (tree_in t.cells) c.in-Place.number c.in-Place.place (last ∙ ap Some (sym c.of.ensures ∙ c.in-Place.is)))

pub returns-in_default : goal.returns-in_default
returns-in_default c =
    let t = there c.self.inside.region.runs c.args.tree.run.key c.self.invariant.trees (rw (← c.self.view_is) at c.requires) in
    let last = last-says t.cells c.len-last.result c.get.result t.tree (rw t.found at c.len-last.ensures) (rw t.found at c.get.ensures) in
    rw (← c.self.view_is, t.node_found) (none-is (tree_in t.cells) c.of.result (last ∙ ap Some (sym c.of.ensures)) c.in_default.not-Place)
