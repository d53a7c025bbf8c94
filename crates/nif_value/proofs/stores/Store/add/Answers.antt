use Rattle.std.proofs.Common.{false, true, ◌≡◌, ℕ, ◌+◌, [], ◌∷◌, ◌++◌, length, vec_capacity, sym, ap, ◌∙◌, refl, arith, subst, append-nil}
use Rattle.std.proofs.lemmas.Bool.{false≢true}
use Rattle.nif_cells.specs.Encoding.{places_from, is_reference}
use Rattle.nif_cells.specs.declared.contents.Content.{Content}
use Rattle.nif_value.specs.Kept.{AreTrees}
use Rattle.nif_value.specs.Built.{added, TakesContent}
use Rattle.nif_value.proofs.Standing.{IsStep, step-of, built-few, enough, IsDone, done-stands, done-reads, puts-is, puts-count}
use Rattle.nif_value.proofs.Steps.{built-added, grown-added, built-fit, counted-count}
use Rattle.nif_value.proofs.stores.Store.add.Goals as goal

no_places : (c : Content) (at : ℕ) → is_reference c ≡ false → places_from at (c ∷ []) ≡ []
no_places c at none = rw none refl

pub overflow_cast-pending : goal.overflow_cast-pending
overflow_cast-pending c =
    let t = step-of c.self.inside.region _ _ _ _ _ _ (TakesContent c.args.content) (added c.args.content) c.self.invariant.built (rw (← c.self.view_is) at c.requires.takes) in
    let f = built-few t.built in
    omega (arith, c.self.inside.open.ok.0, c.self.inside.references.ok.0)

pub overflow_add-pending-2 : goal.overflow_add-pending-2
overflow_add-pending-2 c =
    let t = step-of c.self.inside.region _ _ _ _ _ _ (TakesContent c.args.content) (added c.args.content) c.self.invariant.built (rw (← c.self.view_is) at c.requires.takes) in
    let f = built-few t.built in
    omega (arith, c.self.inside.open.ok.0, c.self.inside.references.ok.0)

pub returns-in_err-reserve-clause-succeeds : goal.returns-in_err-reserve-clause-succeeds
returns-in_err-reserve-clause-succeeds c =
    let t = step-of c.self.inside.region _ _ _ _ _ _ (TakesContent c.args.content) (added c.args.content) c.self.invariant.built (rw (← c.self.view_is) at c.requires.takes) in
    rw (← c.self.view_is) (λ less.
    let r = enough t (vec_capacity c.self.inside.references) less in
    let g = grown-added t.built c.args.content t.place in
    let g' = rw (no_places c.args.content 0 c.requires.no_reference, append-nil) at g in
    let ok : false ≡ true = c.in_err-reserve.ensures.succeeds (omega (arith, c.self.inside.open.ok.0, c.self.inside.references.ok.0)) (omega arith) in
    absurd (false≢true ok))

pub put-requires : goal.put-requires
put-requires c =
    let t = step-of c.self.inside.region _ _ _ _ _ _ (TakesContent c.args.content) (added c.args.content) c.self.invariant.built (rw (← c.self.view_is) at c.requires.takes) in
    let f = built-few t.built in
    record {
      before = t.cells;
      is = c.in_ok-reserve.ensures.building ∙ t.was;
      few = omega arith;
      room = omega (arith, c.in_ok-reserve.ensures.cells);
    }

pub overflow_add-self : goal.overflow_add-self
overflow_add-self c =
    let t = step-of c.self.inside.region _ _ _ _ _ _ (TakesContent c.args.content) (added c.args.content) c.self.invariant.built (rw (← c.self.view_is) at c.requires.takes) in
    let f = built-few t.built in
    omega (arith, t.built.pushed_are)

pub count-requires : goal.count-requires
count-requires c =
    let t = step-of c.self.inside.region _ _ _ _ _ _ (TakesContent c.args.content) (added c.args.content) c.self.invariant.built (rw (← c.self.view_is) at c.requires.takes) in
    built-fit t.built 1 (omega arith)

done : (c : goal.After-count) → (t : IsStep c.self.inside.region c.self.inside.open.items c.self.inside.references.items c.self.inside.pushed c.self.inside.packing.left c.self.inside.packing.bits (vec_capacity c.self.inside.open) (TakesContent c.args.content) (added c.args.content))
    → IsDone c.put.new.region c.count.new.open.items c.self.inside.references.items (c.self.inside.pushed + 1) c.self.inside.packing.left c.self.inside.packing.bits (vec_capacity c.count.new.open) (added c.args.content t.tree.levels)
done c t =
    let n = puts-count c.put.ensures in
    let m = ap length c.count.ensures.items ∙ counted-count 1 c.self.inside.open.items in
    let none = no_places c.args.content (length t.cells) c.requires.no_reference in
    record {
      cells = t.cells ++ c.put.ensures.cells;
      is = puts-is t.cells c.put.ensures (c.in_ok-reserve.ensures.building ∙ t.was);
      built = built-added t.built c.args.content c.put.ensures.cells _ _ _ _ _ t.place t.within c.put.ensures.says c.count.ensures.items (sym (append-nil c.self.inside.references.items) ∙ ap (λ l. c.self.inside.references.items ++ l) (sym none)) (omega arith)
          (omega (arith, c.put.ensures.spare_cells, c.in_ok-reserve.ensures.cells, c.self.inside.open.ok.0, c.self.inside.references.ok.0)) (omega (arith, t.built.room_levels, c.count.ensures.capacity));
    }

pub invariant_of-self-2 : goal.invariant_of-self-2
invariant_of-self-2 c =
    let t = step-of c.self.inside.region _ _ _ _ _ _ (TakesContent c.args.content) (added c.args.content) c.self.invariant.built (rw (← c.self.view_is) at c.requires.takes) in
    record {
      trees = subst AreTrees (sym (c.put.ensures.same_runs ∙ c.in_ok-reserve.ensures.runs)) c.self.invariant.trees;
      built = done-stands (done c t);
    }

pub returns-clause-ok : goal.returns-clause-ok
returns-clause-ok c =
    let t = step-of c.self.inside.region _ _ _ _ _ _ (TakesContent c.args.content) (added c.args.content) c.self.invariant.built (rw (← c.self.view_is) at c.requires.takes) in
    done-reads (done c t) ∙ rw (← c.self.view_is) (sym t.after_is)
