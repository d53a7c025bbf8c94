use Rattle.std.proofs.Common.{◌+◌, ◌<◌, [], ◌∷◌, ◌++◌, length, vec_capacity, Some, sym, ap, ◌∙◌, refl, arith, subst, slice_set, length-append}
use Rattle.std.proofs.lemmas.List.Elements.{All-pop}
use Rattle.nif_cells.specs.Building.{closed}
use Rattle.nif_value.specs.Kept.{AreTrees}
use Rattle.nif_value.specs.Built.{counted}
use Rattle.nif_value.specs.declared.builders.Open.{Open}
use Rattle.nif_value.proofs.Standing.{built-few, IsDone, done-stands, done-reads, puts-is}
use Rattle.nif_value.proofs.Steps.{built-fit, counted-count}
use Rattle.nif_value.proofs.Closing.{IsClosing, closing-of, last-same, built-closed, head-there, patched-is}
use Rattle.nif_value.proofs.stores.Store.close.Goals as goal

pub unreachable-requires : goal.unreachable-requires
unreachable-requires c =
    let t = closing-of c.self.inside.region _ _ _ _ _ _ c.self.invariant.built (rw (← c.self.view_is) at c.requires) in
    omega (arith, t.some, c.self.inside.open.ok.0, c.in_default.ensures.cases.0)

pub put-requires : goal.put-requires
put-requires c =
    let t = closing-of c.self.inside.region _ _ _ _ _ _ c.self.invariant.built (rw (← c.self.view_is) at c.requires) in
    let f = built-few t.built in
    record { before = t.cells; is = t.was; few = omega arith; room = omega (arith, t.built.room, t.some) }

pub patch-requires : goal.patch-requires
patch-requires c =
    let t = closing-of c.self.inside.region _ _ _ _ _ _ c.self.invariant.built (rw (← c.self.view_is) at c.requires) in
    let l = last-same _ _ _ _ (sym c.in-Some.ensures.items ∙ t.levels_are) in
    let at = ap (λ (o : Open). o.head) l.1 in
    let h = head-there t.built in
    let n = length-append t.cells c.put.ensures.cells in
    rw (puts-is t.cells c.put.ensures t.was) (omega arith)

pub overflow_add-self : goal.overflow_add-self
overflow_add-self c =
    let t = closing-of c.self.inside.region _ _ _ _ _ _ c.self.invariant.built (rw (← c.self.view_is) at c.requires) in
    let f = built-few t.built in
    omega (arith, t.built.pushed_are)

pub count-requires : goal.count-requires
count-requires c =
    let t = closing-of c.self.inside.region _ _ _ _ _ _ c.self.invariant.built (rw (← c.self.view_is) at c.requires) in
    (All-pop (λ o. o.count + 1 < 4294967296) c.self.inside.open.items c.pop.new.self.items (Some c.in-Some.level) c.in-Some.ensures.items (built-fit t.built 1 (omega arith))).0

done : (c : goal.After-count) → (t : IsClosing c.self.inside.region c.self.inside.open.items c.self.inside.references.items c.self.inside.pushed c.self.inside.packing.left c.self.inside.packing.bits (vec_capacity c.self.inside.open))
    → IsDone c.patch.new.self c.count.new.open.items c.self.inside.references.items (c.self.inside.pushed + 1) c.new-self-inside.result.left c.new-self-inside.result.bits (vec_capacity c.count.new.open) (closed (t.level ∷ t.outer))
done c t =
    let l = last-same _ _ _ _ (sym c.in-Some.ensures.items ∙ t.levels_are) in
    let k = ap length c.count.ensures.items ∙ counted-count 1 c.pop.new.self.items in
    let n = ap length c.in-Some.ensures.items ∙ length-append c.pop.new.self.items (c.in-Some.level ∷ []) in
    record {
      cells = slice_set (t.cells ++ c.put.ensures.cells) c.in-Some.level.head c.cell.result;
      is = patched-is _ _ (t.cells ++ c.put.ensures.cells) c.in-Some.level.head c.cell.result (puts-is t.cells c.put.ensures t.was) c.patch.ensures.building;
      built = built-closed t.built c.put.ensures.cells c.cell.result c.in-Some.level _ _ _ _ _ _ l.1 (c.put.ensures.says ∙ ap (λ x. x ∷ []) c.end.ensures) (c.cell.ensures ∙ c.head.ensures) (c.count.ensures.items ∙ ap (counted 1) l.0) refl c.new-self-inside.ensures.left c.new-self-inside.ensures.bits
          (omega (arith, t.built.room, c.put.ensures.spare_cells, c.patch.ensures.spare.cells_left)) (omega (arith, t.built.room_levels, c.count.ensures.capacity, c.pop.ensures.capacity));
    }

pub invariant_of-self : goal.invariant_of-self
invariant_of-self c =
    let t = closing-of c.self.inside.region _ _ _ _ _ _ c.self.invariant.built (rw (← c.self.view_is) at c.requires) in
    record {
      trees = subst AreTrees (sym (c.patch.ensures.runs ∙ c.put.ensures.same_runs)) c.self.invariant.trees;
      built = done-stands (done c t);
    }

pub returns-clause-building : goal.returns-clause-building
returns-clause-building c =
    let t = closing-of c.self.inside.region _ _ _ _ _ _ c.self.invariant.built (rw (← c.self.view_is) at c.requires) in
    done-reads (done c t) ∙ rw (← c.self.view_is) (sym t.after_is)
