use Rattle.std.proofs.Common.{false, true, ◌≡◌, ◌+◌, [], ◌∷◌, ◌++◌, length, vec_capacity, sym, ap, ◌∙◌, arith, subst, length-append}
use Rattle.std.proofs.lemmas.Bool.{false≢true}
use Rattle.nif_base.specs.Node.{Ref}
use Rattle.nif_cells.specs.Building.{TakesNode, placed}
use Rattle.nif_value.specs.Kept.{AreTrees}
use Rattle.nif_value.proofs.Standing.{IsStep, step-of, built-few, enough, IsDone, done-stands, done-reads, puts-is, puts-count}
use Rattle.nif_value.proofs.Steps.{built-placed, grown-placed, references-few, built-fit, counted-count}
use Rattle.nif_value.proofs.stores.Store.refer.Goals as goal

pub overflow_cast-pending : goal.overflow_cast-pending
overflow_cast-pending c =
    let t = step-of c.self.inside.region _ _ _ _ _ _ TakesNode (placed (Ref c.args.view.strong c.args.view.wanted c.args.view.target)) c.self.invariant.built (rw (← c.self.view_is) at c.requires.takes) in
    let f = built-few t.built in
    omega (arith, c.self.inside.open.ok.0, c.self.inside.references.ok.0)

pub overflow_add-pending-2 : goal.overflow_add-pending-2
overflow_add-pending-2 c =
    let t = step-of c.self.inside.region _ _ _ _ _ _ TakesNode (placed (Ref c.args.view.strong c.args.view.wanted c.args.view.target)) c.self.invariant.built (rw (← c.self.view_is) at c.requires.takes) in
    let f = built-few t.built in
    omega (arith, c.self.inside.open.ok.0, c.self.inside.references.ok.0)

pub returns-in_err-reserve-clause-succeeds : goal.returns-in_err-reserve-clause-succeeds
returns-in_err-reserve-clause-succeeds c =
    let t = step-of c.self.inside.region _ _ _ _ _ _ TakesNode (placed (Ref c.args.view.strong c.args.view.wanted c.args.view.target)) c.self.invariant.built (rw (← c.self.view_is) at c.requires.takes) in
    rw (← c.self.view_is) (λ less.
    let r = enough t (vec_capacity c.self.inside.references) less in
    let g = grown-placed t.built (Ref c.args.view.strong c.args.view.wanted c.args.view.target) t.place tt in
    let ok : false ≡ true = c.in_err-reserve.ensures.succeeds (omega (arith, c.self.inside.open.ok.0, c.self.inside.references.ok.0)) (omega arith) in
    absurd (false≢true ok))

pub returns-in-Err-clause-succeeds : goal.returns-in-Err-clause-succeeds
returns-in-Err-clause-succeeds c =
    let t = step-of c.self.inside.region _ _ _ _ _ _ TakesNode (placed (Ref c.args.view.strong c.args.view.wanted c.args.view.target)) c.self.invariant.built (rw (← c.self.view_is) at c.requires.takes) in
    rw (← c.self.view_is) (λ less.
    let r = enough t (vec_capacity c.self.inside.references) less in
    let m = references-few t.built (Ref c.args.view.strong c.args.view.wanted c.args.view.target) t.place tt in
    c.in-Err.ensures.succeeds (omega (arith, c.self.inside.references.ok.0)))

pub put-requires : goal.put-requires
put-requires c =
    let t = step-of c.self.inside.region _ _ _ _ _ _ TakesNode (placed (Ref c.args.view.strong c.args.view.wanted c.args.view.target)) c.self.invariant.built (rw (← c.self.view_is) at c.requires.takes) in
    let f = built-few t.built in
    record {
      before = t.cells;
      is = c.in_ok-reserve.ensures.building ∙ t.was;
      few = omega arith;
      room = omega (arith, c.in_ok-reserve.ensures.cells);
    }

pub overflow_add-self : goal.overflow_add-self
overflow_add-self c =
    let t = step-of c.self.inside.region _ _ _ _ _ _ TakesNode (placed (Ref c.args.view.strong c.args.view.wanted c.args.view.target)) c.self.invariant.built (rw (← c.self.view_is) at c.requires.takes) in
    let f = built-few t.built in
    omega (arith, t.built.pushed_are)

pub count-requires : goal.count-requires
count-requires c =
    let t = step-of c.self.inside.region _ _ _ _ _ _ TakesNode (placed (Ref c.args.view.strong c.args.view.wanted c.args.view.target)) c.self.invariant.built (rw (← c.self.view_is) at c.requires.takes) in
    built-fit t.built 1 (omega arith)

done : (c : goal.After-count) → (t : IsStep c.self.inside.region c.self.inside.open.items c.self.inside.references.items c.self.inside.pushed c.self.inside.packing.left c.self.inside.packing.bits (vec_capacity c.self.inside.open) TakesNode (placed (Ref c.args.view.strong c.args.view.wanted c.args.view.target)))
    → IsDone c.put.new.region c.count.new.open.items c.push.new.self.items (c.self.inside.pushed + 1) c.self.inside.packing.left c.self.inside.packing.bits (vec_capacity c.count.new.open) (placed (Ref c.args.view.strong c.args.view.wanted c.args.view.target) t.tree.levels)
done c t =
    let n = puts-count c.put.ensures in
    let m = ap length c.count.ensures.items ∙ counted-count 1 c.self.inside.open.items in
    let p = ap length c.in-Ok.ensures.items ∙ length-append c.self.inside.references.items (c.self.inside.pushed ∷ []) in
    record {
      cells = t.cells ++ c.put.ensures.cells;
      is = puts-is t.cells c.put.ensures (c.in_ok-reserve.ensures.building ∙ t.was);
      built = built-placed t.built (Ref c.args.view.strong c.args.view.wanted c.args.view.target) c.put.ensures.cells _ _ _ _ _ t.place tt t.within c.put.ensures.says c.count.ensures.items (c.in-Ok.ensures.items ∙ ap (λ k. c.self.inside.references.items ++ k ∷ []) t.built.pushed_are) (omega arith)
          (omega (arith, c.put.ensures.spare_cells, c.in_ok-reserve.ensures.cells, c.self.inside.open.ok.0, c.self.inside.references.ok.0)) (omega (arith, t.built.room_levels, c.count.ensures.capacity));
    }

pub invariant_of-self-2 : goal.invariant_of-self-2
invariant_of-self-2 c =
    let t = step-of c.self.inside.region _ _ _ _ _ _ TakesNode (placed (Ref c.args.view.strong c.args.view.wanted c.args.view.target)) c.self.invariant.built (rw (← c.self.view_is) at c.requires.takes) in
    record {
      trees = subst AreTrees (sym (c.put.ensures.same_runs ∙ c.in_ok-reserve.ensures.runs)) c.self.invariant.trees;
      built = done-stands (done c t);
    }

pub returns-clause-ok : goal.returns-clause-ok
returns-clause-ok c =
    let t = step-of c.self.inside.region _ _ _ _ _ _ TakesNode (placed (Ref c.args.view.strong c.args.view.wanted c.args.view.target)) c.self.invariant.built (rw (← c.self.view_is) at c.requires.takes) in
    done-reads (done c t) ∙ rw (← c.self.view_is) (sym t.after_is)
