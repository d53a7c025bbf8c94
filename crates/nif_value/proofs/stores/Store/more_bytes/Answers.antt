use Rattle.std.proofs.Common.{false, true, ◌≡◌, ℕ, ◌+◌, ◌/◌, ◌^◌, ◌<◌, ◌≤◌, List, ◌∷◌, ◌++◌, length, vec_capacity, None, sym, ap, ◌∙◌, arith, subst, length-append, All, get_or}
use Rattle.std.proofs.lemmas.Bool.{false≢true}
use Rattle.std.proofs.lemmas.List.Elements.{All-from_get_or}
use Rattle.nif_region.specs.Contents.{Contents}
use Rattle.nif_region.specs.declared.cells.Cell.{Cell}
use Rattle.nif_cells.specs.Building.{Building, Level, InBytes, TakesBytes, lengthened}
use Rattle.nif_cells.specs.Encoding.{packed_from}
use Rattle.nif_value.specs.Packing.{started}
use Rattle.nif_value.specs.Kept.{AreTrees}
use Rattle.nif_value.specs.Trees.{IsWithin, nodes_built, bytes_built}
use Rattle.nif_value.specs.Built.{IsBuilt}
use Rattle.nif_value.specs.declared.builders.Open.{Open}
use Rattle.nif_value.proofs.Packs.{words-count}
use Rattle.nif_value.proofs.Standing.{IsStep, step-of, built-few, enough, IsDone, done-stands, done-reads, puts-is, puts-count}
use Rattle.nif_value.proofs.Steps.{in_bytes, built-more, grown-more, left-low, built-fit, counted-count, words-length}
use Rattle.nif_value.proofs.stores.Store.more_bytes.Goals as goal

small : (bytes : List ℕ) → ((i : ℕ) → get_or bytes i 0 < 256) → All (λ b. b < 256) bytes
small bytes h = All-from_get_or (λ b. b < 256) bytes 0 (λ i l. h i)

-- What a step with more bytes has.
record IsMore (region : Contents) (levels : List Open) (references : List ℕ) (pushed left bits places : ℕ) (bytes : List ℕ) (tree : Building) (cells : List Cell) : Type 0 where
  before : List ℕ
  outer : List Level
  is : tree ≡ record { top = None; levels = InBytes before ∷ outer }
  built : IsBuilt (record { top = None; levels = InBytes before ∷ outer }) cells levels references pushed left bits region.spare_cells places
  within : IsWithin (record { top = None; levels = InBytes (before ++ bytes) ∷ outer })
  after : lengthened bytes tree.levels ≡ record { top = None; levels = InBytes (before ++ bytes) ∷ outer }
  few : length bytes ≤ 2 ^ 26

more : {region : Contents} {levels : List Open} {references : List ℕ} {pushed left bits places : ℕ} (bytes : List ℕ) → (t : IsStep region levels references pushed left bits places (λ b. TakesBytes b.levels) (lengthened bytes)) → IsMore region levels references pushed left bits places bytes t.tree t.cells
more {region} {levels} {references} {pushed} {left} {bits} {places} bytes t =
    let i = in_bytes t.tree t.built.alone t.place in
    let w : IsWithin (record { top = None; levels = InBytes (i.bytes ++ bytes) ∷ i.outer }) = subst (λ (b : Building). IsWithin (lengthened bytes b.levels)) i.is t.within in
    let n = length-append i.bytes bytes in
    record {
      before = i.bytes;
      outer = i.outer;
      is = i.is;
      built = subst (λ (b : Building). IsBuilt b t.cells levels references pushed left bits region.spare_cells places) i.is t.built;
      within = w;
      after = ap (λ (b : Building). lengthened bytes b.levels) i.is;
      few = omega (arith, w.bytes_within);
    }

pub overflow_add-full : goal.overflow_add-full
overflow_add-full c =
    let t = step-of c.self.inside.region _ _ _ _ _ _ (λ b. TakesBytes b.levels) (lengthened c.args.bytes.now) c.self.invariant.built (rw (← c.self.view_is) at c.requires.takes) in
    let m = more c.args.bytes.now t in
    let l = left-low m.built in
    omega (arith, m.few, l.0)

pub overflow_cast-pending : goal.overflow_cast-pending
overflow_cast-pending c =
    let t = step-of c.self.inside.region _ _ _ _ _ _ (λ b. TakesBytes b.levels) (lengthened c.args.bytes.now) c.self.invariant.built (rw (← c.self.view_is) at c.requires.takes) in
    let f = built-few t.built in
    omega (arith, c.self.inside.open.ok.0, c.self.inside.references.ok.0)

pub overflow_add-full-2 : goal.overflow_add-full-2
overflow_add-full-2 c =
    let t = step-of c.self.inside.region _ _ _ _ _ _ (λ b. TakesBytes b.levels) (lengthened c.args.bytes.now) c.self.invariant.built (rw (← c.self.view_is) at c.requires.takes) in
    let m = more c.args.bytes.now t in
    let l = left-low m.built in
    let f = built-few t.built in
    omega (arith, c.self.inside.open.ok.0, c.self.inside.references.ok.0, m.few, l.0)

pub returns-in_err-reserve-clause-succeeds : goal.returns-in_err-reserve-clause-succeeds
returns-in_err-reserve-clause-succeeds c =
    let t = step-of c.self.inside.region _ _ _ _ _ _ (λ b. TakesBytes b.levels) (lengthened c.args.bytes.now) c.self.invariant.built (rw (← c.self.view_is) at c.requires.takes) in
    rw (← c.self.view_is) (λ less.
    let r = enough t (vec_capacity c.self.inside.references) less in
    let m = more c.args.bytes.now t in
    let g = grown-more m.built c.args.bytes.now in
    let nodes = ap nodes_built m.after in
    let bytes = ap bytes_built m.after in
    let ok : false ≡ true = c.in_err-reserve.ensures.succeeds (omega (arith, c.self.inside.open.ok.0, c.self.inside.references.ok.0)) (omega arith) in
    absurd (false≢true ok))

pub put_bytes-requires-clause-room : goal.put_bytes-requires-clause-room
put_bytes-requires-clause-room c =
    let t = step-of c.self.inside.region _ _ _ _ _ _ (λ b. TakesBytes b.levels) (lengthened c.args.bytes.now) c.self.invariant.built (rw (← c.self.view_is) at c.requires.takes) in
    let m = more c.args.bytes.now t in
    let l = left-low m.built in
    let f = built-few t.built in
    record { before = t.cells; is = c.in_ok-reserve.ensures.building ∙ t.was; few = omega (arith, m.few, l.0); room = omega (arith, c.in_ok-reserve.ensures.cells) }

pub put_bytes-requires-clause-left : goal.put_bytes-requires-clause-left
put_bytes-requires-clause-left c =
    let t = step-of c.self.inside.region _ _ _ _ _ _ (λ b. TakesBytes b.levels) (lengthened c.args.bytes.now) c.self.invariant.built (rw (← c.self.view_is) at c.requires.takes) in
    (left-low (more c.args.bytes.now t).built).0

pub put_bytes-requires-clause-bits : goal.put_bytes-requires-clause-bits
put_bytes-requires-clause-bits c =
    let t = step-of c.self.inside.region _ _ _ _ _ _ (λ b. TakesBytes b.levels) (lengthened c.args.bytes.now) c.self.invariant.built (rw (← c.self.view_is) at c.requires.takes) in
    (left-low (more c.args.bytes.now t).built).1

pub overflow_add-self : goal.overflow_add-self
overflow_add-self c =
    let t = step-of c.self.inside.region _ _ _ _ _ _ (λ b. TakesBytes b.levels) (lengthened c.args.bytes.now) c.self.invariant.built (rw (← c.self.view_is) at c.requires.takes) in
    let m = more c.args.bytes.now t in
    let l = left-low m.built in
    let f = built-few t.built in
    omega (arith, t.built.pushed_are, m.few, l.0)

pub count-requires : goal.count-requires
count-requires c =
    let t = step-of c.self.inside.region _ _ _ _ _ _ (λ b. TakesBytes b.levels) (lengthened c.args.bytes.now) c.self.invariant.built (rw (← c.self.view_is) at c.requires.takes) in
    built-fit t.built (length c.args.bytes.now) (more c.args.bytes.now t).few

done : (c : goal.After-count) → (t : IsStep c.self.inside.region c.self.inside.open.items c.self.inside.references.items c.self.inside.pushed c.self.inside.packing.left c.self.inside.packing.bits (vec_capacity c.self.inside.open) (λ b. TakesBytes b.levels) (lengthened c.args.bytes.now))
    → IsDone c.put_bytes.new.region c.count.new.open.items c.self.inside.references.items (c.self.inside.pushed + (c.self.inside.packing.left + length c.args.bytes.now) / 8) c.put_bytes.new.packing.left c.put_bytes.new.packing.bits (vec_capacity c.count.new.open) (lengthened c.args.bytes.now t.tree.levels)
done c t =
    let m = more c.args.bytes.now t in
    let l = left-low m.built in
    let p = c.put_bytes.ensures.puts in
    let n = puts-count p in
    let w = words-length (packed_from (started c.self.inside.packing.left c.self.inside.packing.bits) c.args.bytes.now).words ∙ words-count c.self.inside.packing.left c.self.inside.packing.bits c.args.bytes.now l.0 in
    let k = ap length c.count.ensures.items ∙ counted-count (length c.args.bytes.now) c.self.inside.open.items in
    record {
      cells = t.cells ++ p.cells;
      is = puts-is t.cells p (c.in_ok-reserve.ensures.building ∙ t.was);
      built = subst (λ b. IsBuilt b (t.cells ++ p.cells) c.count.new.open.items c.self.inside.references.items (c.self.inside.pushed + (c.self.inside.packing.left + length c.args.bytes.now) / 8) c.put_bytes.new.packing.left c.put_bytes.new.packing.bits c.put_bytes.new.region.spare_cells (vec_capacity c.count.new.open)) (sym m.after) (
          built-more m.built c.args.bytes.now p.cells _ _ _ _ _ _ (small c.args.bytes.now (λ i. omega (arith, c.type_inv.bytes i))) m.within p.says c.count.ensures.items c.put_bytes.ensures.left c.put_bytes.ensures.bits (omega arith)
          (omega (arith, p.spare_cells, c.in_ok-reserve.ensures.cells, c.self.inside.open.ok.0, c.self.inside.references.ok.0)) (omega (arith, t.built.room_levels, c.count.ensures.capacity)));
    }

pub invariant_of-self-2 : goal.invariant_of-self-2
invariant_of-self-2 c =
    let t = step-of c.self.inside.region _ _ _ _ _ _ (λ b. TakesBytes b.levels) (lengthened c.args.bytes.now) c.self.invariant.built (rw (← c.self.view_is) at c.requires.takes) in
    record {
      trees = subst AreTrees (sym (c.put_bytes.ensures.puts.same_runs ∙ c.in_ok-reserve.ensures.runs)) c.self.invariant.trees;
      built = done-stands (done c t);
    }

pub returns-clause-ok : goal.returns-clause-ok
returns-clause-ok c =
    let t = step-of c.self.inside.region _ _ _ _ _ _ (λ b. TakesBytes b.levels) (lengthened c.args.bytes.now) c.self.invariant.built (rw (← c.self.view_is) at c.requires.takes) in
    done-reads (done c t) ∙ rw (← c.self.view_is) (sym t.after_is)
