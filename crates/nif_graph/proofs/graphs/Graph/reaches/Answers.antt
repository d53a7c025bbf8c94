use Rattle.std.proofs.Common.{◌≡◌, ◌<◌, true, Some, length, refl, sym, subst, arith}
use Rattle.std.specs.Prelude.{slice_get}
use Rattle.std.proofs.lemmas.Option.{slice_get_read}
use Rattle.nif_graph.specs.Graph.{is_live}
use Rattle.nif_graph.specs.Reach.{Reaches}
use Rattle.nif_graph.specs.State.{GraphState, origin_of}
use Rattle.nif_graph.proofs.Keeping.{slots_live, kept_aimed}
use Rattle.nif_graph.proofs.graphs.Graph.reaches.Goals as goal

pub mark_reached-requires-clause-trees : goal.mark_reached-requires-clause-trees
mark_reached-requires-clause-trees c =
    slots_live c.self.inside.store c.self.inside.header c.self.inside.footer c.self.inside.places (origin_of c.self.inside.context c.self.inside.strings) c.self.inside.indexed c.self.inside.types.items c.self.inside.slots c.self.inside.nodes c.self.inside.marks c.self.inside.room c.self.invariant

pub mark_reached-requires-clause-aimed : goal.mark_reached-requires-clause-aimed
mark_reached-requires-clause-aimed c =
    kept_aimed c.self.inside.store c.self.inside.header c.self.inside.footer c.self.inside.places (origin_of c.self.inside.context c.self.inside.strings) c.self.inside.indexed c.self.inside.types.items c.self.inside.slots c.self.inside.nodes c.self.inside.marks c.self.inside.room c.self.invariant

pub returns-clause-yes : goal.returns-clause-yes
returns-clause-yes c marked =
    let lives = subst (λ (s : GraphState). is_live c.args.to s.graph.blocks ≡ true) (sym c.self.view_is) c.requires.to in
    let below : c.args.to < c.self.inside.slots.next = c.self.invariant.graph.below c.args.to lives in
    let within : c.args.to < length c.mark_reached.new.self.marks.items =
    omega (arith, c.mark_reached.ensures.length, c.self.invariant.marked) in
    let s : slice_get c.mark_reached.new.self.marks.items c.args.to ≡ Some c.index.result.now =
    slice_get_read c.mark_reached.new.self.marks.items (length c.mark_reached.new.self.marks.items) c.args.to c.index.result.now refl within
    c.index.ensures in
    subst (λ (s : GraphState). Reaches s.graph.blocks c.args.from c.args.to) c.self.view_is
    ((c.mark_reached.ensures.reached c.args.to c.index.result.now s).0 marked)

pub returns-clause-no : goal.returns-clause-no
returns-clause-no c reached =
    let lives = subst (λ (s : GraphState). is_live c.args.to s.graph.blocks ≡ true) (sym c.self.view_is) c.requires.to in
    let below : c.args.to < c.self.inside.slots.next = c.self.invariant.graph.below c.args.to lives in
    let within : c.args.to < length c.mark_reached.new.self.marks.items =
    omega (arith, c.mark_reached.ensures.length, c.self.invariant.marked) in
    let s : slice_get c.mark_reached.new.self.marks.items c.args.to ≡ Some c.index.result.now =
    slice_get_read c.mark_reached.new.self.marks.items (length c.mark_reached.new.self.marks.items) c.args.to c.index.result.now refl within
    c.index.ensures in
    (c.mark_reached.ensures.reached c.args.to c.index.result.now s).1
    (subst (λ (s : GraphState). Reaches s.graph.blocks c.args.from c.args.to) (sym c.self.view_is) reached)
