use Rattle.std.proofs.Common.{◌≡◌, ◌<◌, ℕ, Some, IfSome, length, sym, ◌∙◌, subst, arith}
use Rattle.std.specs.Prelude.{slice_get}
use Rattle.std.proofs.lemmas.Option.{slice_get_within}
use Rattle.nif_base.specs.Node.{Reference, refs}
use Rattle.nif_value.specs.Trees.{Trees, IsLive, reference_of}
use Rattle.nif_value.specs.declared.stores.TreeId.{TreeId}
use Rattle.nif_region.specs.Contents.{find}
use Rattle.nif_graph.specs.State.{node_at}
use Rattle.nif_graph.proofs.Keeping.{node_there}
use Rattle.nif_graph.proofs.Marking.{expand_ends, expand_once, expand_skips, strong_some, strong_none}
use Rattle.nif_graph.proofs.marks.Marks.expand.Goals as goal
use Rattle.nif_graph.proofs.marks.Marks.expand.Goals.{in-Some, in_default}

-- the reference that is asked for
asked : (store : Trees) (tree : TreeId) (k : ℕ) (r : Reference) → IsLive store tree.run.key
    → IfSome (find store.trees tree.run.key) (λ node. slice_get (refs node) k ≡ Some r)
    → slice_get (refs (node_at store tree)) k ≡ Some r
asked store tree k r live is = subst (λ o. IfSome o (λ node. slice_get (refs node) k ≡ Some r)) (node_there store tree live) is

-- how many there are
count : (store : Trees) (tree : TreeId) (n : ℕ) → IsLive store tree.run.key
    → IfSome (find store.trees tree.run.key) (λ node. n ≡ length (refs node)) → n ≡ length (refs (node_at store tree))
count store tree n live is = subst (λ o. IfSome o (λ node. n ≡ length (refs node))) (node_there store tree live) is

pub mark-requires-clause-within : goal.mark-requires-clause-within
mark-requires-clause-within c =
    let s = asked c.args.store.now c.args.tree c.loop-k.k (reference_of c.ref_at.result) c.requires.live c.ref_at.ensures in
    let t = strong_some c.ref_at.result.strong c.ref_at.result.target c.in-Some.target (sym c.strong_target.ensures ∙ c.in-Some.is) in
    let l : c.in-Some.target < length c.args.self.now.marks.items =
    c.requires.within c.loop-k.k (reference_of c.ref_at.result) c.in-Some.target s t.0 t.1 in
    omega (arith, c.loop-k.invariant.expanding.len)

pub mark-requires-clause-room : goal.mark-requires-clause-room
mark-requires-clause-room c =
    omega (arith, c.requires.room, c.loop-k.invariant.expanding.count, c.loop-k.invariant.queue_room)

pub loop-k-preserved : goal.loop-k-preserved
loop-k-preserved c =
    let links = refs (node_at c.args.store.now c.args.tree) in
    let r = reference_of c.ref_at.result in
    let s = asked c.args.store.now c.args.tree c.loop-k.k r c.requires.live c.ref_at.ensures in
    let h = c.loop-k.invariant.expanding in
    elim c.match-strong_target.branch [
      | in-Some w ↦
          let t = strong_some r.strong r.target w.in-Some.target (sym c.strong_target.ensures ∙ w.in-Some.is) in
          rw w.self-is (record {
            expanding = expand_once links c.args.self.now.marks.items c.args.self.now.queue.items c.loop-k.self.marks.items c.loop-k.self.queue.items
                c.loop-k.k h r s w.in-Some.target t.0 t.1 w.mark.new.self.marks.items w.mark.new.self.queue.items w.mark.ensures.marked;
            marks_room = w.mark.ensures.marks_room ∙ c.loop-k.invariant.marks_room;
            queue_room = w.mark.ensures.queue_room ∙ c.loop-k.invariant.queue_room;
          })
      | in_default w ↦
          rw w.self-is (record {
            expanding = expand_skips links c.args.self.now.marks.items c.args.self.now.queue.items c.loop-k.self.marks.items c.loop-k.self.queue.items
                c.loop-k.k h r s (λ t strong target. absurd (strong_none r.strong r.target t (sym c.strong_target.ensures ∙ w.in_default.is) strong target));
            marks_room = c.loop-k.invariant.marks_room;
            queue_room = c.loop-k.invariant.queue_room;
          })
    ]

pub returns-clause-expanded : goal.returns-clause-expanded
returns-clause-expanded c =
    let links = refs (node_at c.args.store.now c.args.tree) in
    let n = count c.args.store.now c.args.tree c.ref_count-k-end.result c.requires.live c.ref_count-k-end.ensures in
    expand_ends links c.args.self.now.marks.items c.args.self.now.queue.items c.loop-k.self.marks.items c.loop-k.self.queue.items c.loop-k.k
    c.loop-k.invariant.expanding (λ j r s. let l : j < length links = slice_get_within links j r s in omega arith)
