use Rattle.std.proofs.Common.{false, true, ◌≡◌, ◌+◌, [], ◌∷◌, ◌++◌, length, vec_capacity, sym, ap, ◌∙◌, arith, subst, length-append}
use Rattle.std.proofs.lemmas.Bool.{false≢true}
use Rattle.nif_cells.specs.Building.{TakesNode, opened}
use Rattle.nif_value.specs.Kept.{AreTrees}
use Rattle.nif_value.specs.Built.{empty}
use Rattle.nif_value.proofs.Standing.{IsStep, step-of, built-few, enough, IsDone, done-stands, done-reads, puts-is, puts-count, marks-count}
use Rattle.nif_value.proofs.Steps.{built-opened, grown-opened}
use Rattle.nif_value.proofs.stores.Store.open.Goals as goal

pub overflow_cast-pending : goal.overflow_cast-pending
overflow_cast-pending c =
    let t = step-of c.self.inside.region _ _ _ _ _ _ TakesNode (opened (empty c.args.kind)) c.self.invariant.built (rw (← c.self.view_is) at c.requires) in
    let f = built-few t.built in
    omega (arith, c.self.inside.open.ok.0, c.self.inside.references.ok.0)

pub overflow_add-pending-2 : goal.overflow_add-pending-2
overflow_add-pending-2 c =
    let t = step-of c.self.inside.region _ _ _ _ _ _ TakesNode (opened (empty c.args.kind)) c.self.invariant.built (rw (← c.self.view_is) at c.requires) in
    let f = built-few t.built in
    omega (arith, c.self.inside.open.ok.0, c.self.inside.references.ok.0)

pub returns-in_err-reserve-clause-succeeds : goal.returns-in_err-reserve-clause-succeeds
returns-in_err-reserve-clause-succeeds c =
    let t = step-of c.self.inside.region _ _ _ _ _ _ TakesNode (opened (empty c.args.kind)) c.self.invariant.built (rw (← c.self.view_is) at c.requires) in
    rw (← c.self.view_is) (λ less.
    let r = enough t (vec_capacity c.self.inside.references) less in
    let g = grown-opened t.built c.args.kind t.place in
    let ok : false ≡ true = c.in_err-reserve.ensures.succeeds (omega (arith, c.self.inside.open.ok.0, c.self.inside.references.ok.0)) (omega arith) in
    absurd (false≢true ok))

pub put-requires : goal.put-requires
put-requires c =
    let t = step-of c.self.inside.region _ _ _ _ _ _ TakesNode (opened (empty c.args.kind)) c.self.invariant.built (rw (← c.self.view_is) at c.requires) in
    let f = built-few t.built in
    record {
      before = t.cells;
      is = c.in_ok-reserve.ensures.building ∙ t.was;
      few = omega arith;
      room = omega (arith, c.in_ok-reserve.ensures.cells);
    }

pub overflow_add-self : goal.overflow_add-self
overflow_add-self c =
    let t = step-of c.self.inside.region _ _ _ _ _ _ TakesNode (opened (empty c.args.kind)) c.self.invariant.built (rw (← c.self.view_is) at c.requires) in
    let f = built-few t.built in
    omega (arith, t.built.pushed_are)

pub push_reserved-requires : goal.push_reserved-requires
push_reserved-requires c =
    let t = step-of c.self.inside.region _ _ _ _ _ _ TakesNode (opened (empty c.args.kind)) c.self.invariant.built (rw (← c.self.view_is) at c.requires) in
    let m = ap length t.built.levels_are ∙ marks-count t.tree.levels in
    omega (arith, t.within.levels_within, t.built.room_levels, c.self.inside.open.ok.0)

done : (c : goal.After-self-1) → (t : IsStep c.self.inside.region c.self.inside.open.items c.self.inside.references.items c.self.inside.pushed c.self.inside.packing.left c.self.inside.packing.bits (vec_capacity c.self.inside.open) TakesNode (opened (empty c.args.kind)))
    → IsDone c.put.new.region c.push_reserved.new.self.items c.self.inside.references.items (c.self.inside.pushed + 1) c.self.inside.packing.left c.self.inside.packing.bits (vec_capacity c.push_reserved.new.self) (opened (empty c.args.kind) t.tree.levels)
done c t =
    let n = puts-count c.put.ensures in
    let m = ap length c.push_reserved.ensures.items ∙ length-append c.self.inside.open.items (record { kind = c.args.kind; head = c.self.inside.pushed; count = 0 } ∷ []) in
    record {
      cells = t.cells ++ c.put.ensures.cells;
      is = puts-is t.cells c.put.ensures (c.in_ok-reserve.ensures.building ∙ t.was);
      built = built-opened t.built c.args.kind c.put.ensures.cells _ _ _ _ t.place t.within (c.put.ensures.says ∙ ap (λ l. l ∷ []) c.head.ensures) c.push_reserved.ensures.items (omega arith)
          (omega (arith, c.put.ensures.spare_cells, c.in_ok-reserve.ensures.cells, c.self.inside.open.ok.0, c.self.inside.references.ok.0)) (omega (arith, t.built.room_levels, c.push_reserved.ensures.capacity));
    }

pub invariant_of-self-2 : goal.invariant_of-self-2
invariant_of-self-2 c =
    let t = step-of c.self.inside.region _ _ _ _ _ _ TakesNode (opened (empty c.args.kind)) c.self.invariant.built (rw (← c.self.view_is) at c.requires) in
    record {
      trees = subst AreTrees (sym (c.put.ensures.same_runs ∙ c.in_ok-reserve.ensures.runs)) c.self.invariant.trees;
      built = done-stands (done c t);
    }

pub returns-clause-ok : goal.returns-clause-ok
returns-clause-ok c =
    let t = step-of c.self.inside.region _ _ _ _ _ _ TakesNode (opened (empty c.args.kind)) c.self.invariant.built (rw (← c.self.view_is) at c.requires) in
    done-reads (done c t) ∙ rw (← c.self.view_is) (sym t.after_is)
