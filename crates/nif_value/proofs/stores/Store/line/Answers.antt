use Rattle.std.proofs.Common.{false, true, ◌≡◌, ℕ, ◌+◌, ◌/◌, ◌<◌, List, ◌++◌, length, vec_capacity, sym, ap, ◌∙◌, arith, subst, append-nil, All, get_or}
use Rattle.std.proofs.lemmas.Bool.{false≢true}
use Rattle.std.proofs.lemmas.List.Elements.{All-from_get_or}
use Rattle.nif_base.specs.Node.{Line}
use Rattle.nif_cells.specs.Building.{TakesNode, placed}
use Rattle.nif_cells.specs.Encoding.{packed_from}
use Rattle.nif_value.specs.Packing.{started}
use Rattle.nif_value.specs.Kept.{AreTrees}
use Rattle.nif_value.specs.Built.{MayPut}
use Rattle.nif_value.proofs.Packs.{words-count}
use Rattle.nif_value.proofs.Standing.{IsStep, step-of, built-few, enough, IsDone, done-stands, done-reads, puts-is, puts-count, puts-more, may-put}
use Rattle.nif_value.proofs.Steps.{built-placed, grown-placed, built-fit, counted-count, line-places, line-says, line-length, words-length}
use Rattle.nif_value.proofs.stores.Store.line.Goals as goal

small : (bytes : List ℕ) → ((i : ℕ) → get_or bytes i 0 < 256) → All (λ b. b < 256) bytes
small bytes h = All-from_get_or (λ b. b < 256) bytes 0 (λ i l. h i)

pub overflow_cast-pending : goal.overflow_cast-pending
overflow_cast-pending c =
    let t = step-of c.self.inside.region _ _ _ _ _ _ TakesNode (placed (Line c.args.bytes.now)) c.self.invariant.built (rw (← c.self.view_is) at c.requires.takes) in
    let f = built-few t.built in
    omega (arith, c.self.inside.open.ok.0, c.self.inside.references.ok.0)

pub overflow_add-full-2 : goal.overflow_add-full-2
overflow_add-full-2 c =
    let t = step-of c.self.inside.region _ _ _ _ _ _ TakesNode (placed (Line c.args.bytes.now)) c.self.invariant.built (rw (← c.self.view_is) at c.requires.takes) in
    let f = built-few t.built in
    omega (arith, c.self.inside.open.ok.0, c.self.inside.references.ok.0, c.requires.length)

pub returns-in_err-reserve-clause-succeeds : goal.returns-in_err-reserve-clause-succeeds
returns-in_err-reserve-clause-succeeds c =
    let t = step-of c.self.inside.region _ _ _ _ _ _ TakesNode (placed (Line c.args.bytes.now)) c.self.invariant.built (rw (← c.self.view_is) at c.requires.takes) in
    rw (← c.self.view_is) (λ less.
    let r = enough t (vec_capacity c.self.inside.references) less in
    let g = grown-placed t.built (Line c.args.bytes.now) t.place (small c.args.bytes.now (λ i. omega (arith, c.type_inv.bytes i))) in
    let n = line-length c.args.bytes.now in
    let ok : false ≡ true = c.in_err-reserve.ensures.succeeds (omega (arith, c.self.inside.open.ok.0, c.self.inside.references.ok.0)) (omega arith) in
    absurd (false≢true ok))

pub put-requires : goal.put-requires
put-requires c =
    let t = step-of c.self.inside.region _ _ _ _ _ _ TakesNode (placed (Line c.args.bytes.now)) c.self.invariant.built (rw (← c.self.view_is) at c.requires.takes) in
    let f = built-few t.built in
    record { before = t.cells; is = c.in_ok-reserve.ensures.building ∙ t.was; few = omega arith; room = omega (arith, c.in_ok-reserve.ensures.cells) }

pub put_bytes-requires-clause-room : goal.put_bytes-requires-clause-room
put_bytes-requires-clause-room c =
    let t = step-of c.self.inside.region _ _ _ _ _ _ TakesNode (placed (Line c.args.bytes.now)) c.self.invariant.built (rw (← c.self.view_is) at c.requires.takes) in
    let f = built-few t.built in
    let m : MayPut c.reserve.new.self (length c.args.bytes.now / 8 + 2) = record { before = t.cells; is = c.in_ok-reserve.ensures.building ∙ t.was; few = omega (arith, c.requires.length); room = omega (arith, c.in_ok-reserve.ensures.cells) } in
    may-put _ m c.put.ensures (omega (arith, c.new-packing.ensures.left))

pub put-requires-2 : goal.put-requires-2
put-requires-2 c =
    let t = step-of c.self.inside.region _ _ _ _ _ _ TakesNode (placed (Line c.args.bytes.now)) c.self.invariant.built (rw (← c.self.view_is) at c.requires.takes) in
    let f = built-few t.built in
    let m : MayPut c.reserve.new.self (length c.args.bytes.now / 8 + 2) = record { before = t.cells; is = c.in_ok-reserve.ensures.building ∙ t.was; few = omega (arith, c.requires.length); room = omega (arith, c.in_ok-reserve.ensures.cells) } in
    let w = words-count c.new-packing.result.left c.new-packing.result.bits c.args.bytes.now (omega (arith, c.new-packing.ensures.left)) in
    let v = words-length (packed_from (started c.new-packing.result.left c.new-packing.result.bits) c.args.bytes.now).words in
    may-put 1 m (puts-more c.put.ensures c.put_bytes.ensures.puts) (omega (arith, c.new-packing.ensures.left))

pub overflow_add-self-2 : goal.overflow_add-self-2
overflow_add-self-2 c =
    let t = step-of c.self.inside.region _ _ _ _ _ _ TakesNode (placed (Line c.args.bytes.now)) c.self.invariant.built (rw (← c.self.view_is) at c.requires.takes) in
    let f = built-few t.built in
    omega (arith, t.built.pushed_are, c.requires.length)

pub count-requires : goal.count-requires
count-requires c =
    let t = step-of c.self.inside.region _ _ _ _ _ _ TakesNode (placed (Line c.args.bytes.now)) c.self.invariant.built (rw (← c.self.view_is) at c.requires.takes) in
    built-fit t.built 1 (omega arith)

done : (c : goal.After-count) → (t : IsStep c.self.inside.region c.self.inside.open.items c.self.inside.references.items c.self.inside.pushed c.self.inside.packing.left c.self.inside.packing.bits (vec_capacity c.self.inside.open) TakesNode (placed (Line c.args.bytes.now)))
    → IsDone c.put-2.new.region c.count.new.open.items c.self.inside.references.items (c.self.inside.pushed + (length c.args.bytes.now / 8 + 2)) c.self.inside.packing.left c.self.inside.packing.bits (vec_capacity c.count.new.open) (placed (Line c.args.bytes.now) t.tree.levels)
done c t =
    let p = puts-more c.put.ensures (puts-more c.put_bytes.ensures.puts c.put-2.ensures) in
    let says = line-says c.args.bytes.now c.new-packing.result.left c.new-packing.result.bits c.put_bytes.new.packing.left c.put_bytes.new.packing.bits c.new-packing.ensures.left c.new-packing.ensures.bits c.put_bytes.ensures.left c.put_bytes.ensures.bits in
    let n = puts-count p ∙ ap length says ∙ line-length c.args.bytes.now in
    let k = ap length says ∙ line-length c.args.bytes.now in
    let m = ap length c.count.ensures.items ∙ counted-count 1 c.self.inside.open.items in
    record {
      cells = t.cells ++ p.cells;
      is = puts-is t.cells p (c.in_ok-reserve.ensures.building ∙ t.was);
      built = built-placed t.built (Line c.args.bytes.now) p.cells _ _ _ _ _ t.place (small c.args.bytes.now (λ i. omega (arith, c.type_inv.bytes i))) t.within (p.says ∙ says) c.count.ensures.items (sym (append-nil c.self.inside.references.items) ∙ ap (λ l. c.self.inside.references.items ++ l) (sym (line-places (length t.cells) c.args.bytes.now))) (omega arith)
          (omega (arith, p.spare_cells, c.in_ok-reserve.ensures.cells, c.self.inside.open.ok.0, c.self.inside.references.ok.0)) (omega (arith, t.built.room_levels, c.count.ensures.capacity));
    }

pub invariant_of-self-2 : goal.invariant_of-self-2
invariant_of-self-2 c =
    let t = step-of c.self.inside.region _ _ _ _ _ _ TakesNode (placed (Line c.args.bytes.now)) c.self.invariant.built (rw (← c.self.view_is) at c.requires.takes) in
    record {
      trees = subst AreTrees (sym (c.put-2.ensures.same_runs ∙ c.put_bytes.ensures.puts.same_runs ∙ c.put.ensures.same_runs ∙ c.in_ok-reserve.ensures.runs)) c.self.invariant.trees;
      built = done-stands (done c t);
    }

pub returns-clause-ok : goal.returns-clause-ok
returns-clause-ok c =
    let t = step-of c.self.inside.region _ _ _ _ _ _ TakesNode (placed (Line c.args.bytes.now)) c.self.invariant.built (rw (← c.self.view_is) at c.requires.takes) in
    done-reads (done c t) ∙ rw (← c.self.view_is) (sym t.after_is)
