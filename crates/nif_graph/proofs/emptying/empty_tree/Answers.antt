use Rattle.std.proofs.Common.{◌≡◌, ◌+◌, Some, IfSome, length, sym, ◌∙◌, subst, arith}
use Rattle.std.specs.Prelude.{slice_get}
use Rattle.nif_base.specs.Node.{Node, refs}
use Rattle.nif_value.specs.Trees.{Trees, reference_of}
use Rattle.nif_graph.proofs.Emptied.{IsEmptying, under, stands_under, passes, sets, ends}
use Rattle.nif_graph.proofs.emptying.empty_tree.Goals as goal
use Rattle.nif_graph.proofs.emptying.empty_tree.Goals.{then-aims_at, else-aims_at}

pub loop-k-preserved : goal.loop-k-preserved
loop-k-preserved c =
    let key = c.args.tree.run.key in
    let there : slice_get (refs (under c.loop-k.store key)) c.loop-k.k ≡ Some (reference_of c.ref_at.result) =
    subst (λ o. IfSome o (λ (node : Node). slice_get (refs node) c.loop-k.k ≡ Some (reference_of c.ref_at.result)))
    (stands_under c.loop-k.store key c.loop-k.invariant.live) c.ref_at.ensures in
    elim c.if-aims_at.branch [
      | then-aims_at w ↦
          subst (λ (s : Trees). IsEmptying c.args.name key c.args.store.now s (c.loop-k.k + 1)) (sym w.store-is)
          (sets c.args.name key c.args.store.now c.loop-k.store w.set_ref.new.self c.loop-k.k (reference_of c.ref_at.result) c.loop-k.invariant there
          (sym c.aims_at.ensures ∙ w.if-aims_at.true) w.set_ref.ensures.tree w.set_ref.ensures.others w.set_ref.ensures.building w.set_ref.ensures.spare)
      | else-aims_at w ↦
          subst (λ (s : Trees). IsEmptying c.args.name key c.args.store.now s (c.loop-k.k + 1)) (sym w.store-is)
          (passes c.args.name key c.args.store.now c.loop-k.store c.loop-k.k (reference_of c.ref_at.result) c.loop-k.invariant there
          (sym c.aims_at.ensures ∙ w.if-aims_at.false))
    ]

pub returns-clause-tree : goal.returns-clause-tree
returns-clause-tree c =
    let key = c.args.tree.run.key in
    let count : c.ref_count-k-end.result ≡ length (refs (under c.args.store.now key)) =
    subst (λ o. IfSome o (λ (node : Node). c.ref_count-k-end.result ≡ length (refs node))) (stands_under c.args.store.now key c.requires)
    c.ref_count-k-end.ensures in
    ends c.args.name key c.args.store.now c.loop-k.store c.loop-k.k c.requires c.loop-k.invariant (omega (arith, count))
