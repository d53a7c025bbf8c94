-- Runs as they stand in the vector.
use Rattle.std.proofs.Common.{ℕ, zero, suc, ◌+◌, ◌-◌, ◌≤◌, ◌≡◌, List, [], ◌∷◌, ◌++◌, length, take, None, Some, Bool, true, false, if◌then◌else◌, nat_eq, sym, ◌∙◌, ap, refl, arith, inl, inr, subst, append_assoc, length-append}
use Rattle.std.specs.Option.{option_or}
use Rattle.std.proofs.Math.Seq.{take-append_seam, drop-append_seam}
use Rattle.std.proofs.lemmas.Bool.Decides.{eqb_tells}
use Rattle.slab.specs.Slab.{Slab, get}
use Rattle.nif_region.specs.Contents.{find, AreApart, cells_of}
use Rattle.nif_region.specs.Layout.{Segment, Live, Dead, head, own, layout, live_runs, place_of, segments, runs_in, IsLaid}
use Rattle.nif_region.specs.declared.cells.Cell.{Cell}
use Rattle.nif_region.specs.RunLaws.{apart-rest}

pub layout-append : (a b : List Segment) → layout (a ++ b) ≡ layout a ++ layout b
layout-append [] b = refl
layout-append (s ∷ rest) b = ap (λ l. head s ∷ l) (ap (λ l. own s ++ l) (layout-append rest b) ∙ sym (append_assoc (own s) (layout rest) (layout b)))

pub live_runs-append : (a b : List Segment) → live_runs (a ++ b) ≡ live_runs a ++ live_runs b
live_runs-append [] b = refl
live_runs-append (Live key cells ∷ rest) b = ap (λ l. (key, cells) ∷ l) (live_runs-append rest b)
live_runs-append (Dead cells ∷ rest) b = live_runs-append rest b

pub place_of-append : (a b : List Segment) (key at next : ℕ) → next ≡ at + length (layout a) → place_of (a ++ b) key at ≡ option_or (place_of a key at) (place_of b key next)
place_of-append [] b key at next e = ap (λ k. place_of b key k) (let same : at ≡ next = omega arith in same)
place_of-append (Live k cells ∷ rest) b key at next e =
    let further = place_of-append rest b key (at + suc (length cells)) next (omega (arith, length-append cells (layout rest))) in
    elim (nat_eq k key) as (λ t. (if t then Some at else place_of (rest ++ b) key (at + suc (length cells))) ≡ option_or (if t then Some at else place_of rest key (at + suc (length cells))) (place_of b key next)) [
      | true ↦ refl
      | false ↦ further
    ]
place_of-append (Dead cells ∷ rest) b key at next e =
    place_of-append rest b key (at + suc (length cells)) next (omega (arith, length-append cells (layout rest)))

-- reading gives back what stands there
pub segments-layout : (more : ℕ) (all : List Segment) → length (layout all) ≤ more → segments more (layout all) ≡ all
segments-layout zero [] l = refl
segments-layout (suc more) [] l = refl
segments-layout zero (s ∷ rest) l = absurd (omega arith)
segments-layout (suc more) (Live key cells ∷ rest) l =
    let tail : segments more (layout rest) ≡ rest = segments-layout more rest (omega (arith, length-append cells (layout rest))) in
    rw (take-append_seam cells (layout rest), drop-append_seam cells (layout rest)) (ap (λ r. Live key cells ∷ r) tail)
segments-layout (suc more) (Dead cells ∷ rest) l =
    let tail : segments more (layout rest) ≡ rest = segments-layout more rest (omega (arith, length-append cells (layout rest))) in
    rw (take-append_seam cells (layout rest), drop-append_seam cells (layout rest)) (ap (λ r. Dead cells ∷ r) tail)

pub runs_in-layout : (all : List Segment) (last : List Cell) (building : ℕ) → length last ≡ building → runs_in building (layout all ++ last) ≡ live_runs all
runs_in-layout all last building e =
    let count : length (layout all ++ last) - building ≡ length (layout all) = omega (arith, length-append (layout all) last) in
    let front : take (length (layout all ++ last) - building) (layout all ++ last) ≡ layout all =
    ap (λ n. take n (layout all ++ last)) count ∙ take-append_seam (layout all) last in
    ap (λ f. live_runs (segments (length (layout all ++ last)) f)) front
    ∙ ap live_runs (segments-layout (length (layout all ++ last)) all (omega (arith, length-append (layout all) last)))

pub runs_in-laid : (building : ℕ) (cells : List Cell) (places : Slab ℕ) → (laid : IsLaid building cells places) → runs_in building cells ≡ live_runs laid.ended
runs_in-laid building cells places laid = ap (λ c. runs_in building c) laid.cells_are ∙ runs_in-layout laid.ended laid.last building laid.last_are

-- the cells of the live runs are among those of all
pub live_cells-within : (all : List Segment) → cells_of (live_runs all) ≤ length (layout all)
live_cells-within [] = omega arith
live_cells-within (Live key cells ∷ rest) = let more = live_cells-within rest in omega (arith, length-append cells (layout rest))
live_cells-within (Dead cells ∷ rest) = let more = live_cells-within rest in omega (arith, length-append cells (layout rest))

pub cells_of-append : (a b : List (ℕ × List Cell)) → cells_of (a ++ b) ≡ cells_of a + cells_of b
cells_of-append [] b = omega arith
cells_of-append (run ∷ rest) b = let more = cells_of-append rest b in omega arith

pub place-none : (all : List Segment) (key at : ℕ) → find (live_runs all) key ≡ None → place_of all key at ≡ None
place-none [] key at none = refl
place-none (Live k cells ∷ rest) key at none = elim (eqb_tells k key) [
  | inl e ↦ absurd (let hit : (if true then Some cells else find (live_runs rest) key) ≡ None = rw e.0 at none in cc)
  | inr e ↦ rw e.0 (place-none rest key (at + suc (length cells)) (rw e.0 at none))
]
place-none (Dead cells ∷ rest) key at none = place-none rest key (at + suc (length cells)) none

-- a live run stands among the others
pub record IsAmong (all : List Segment) (key : ℕ) (run : List Cell) : Type 0 where
  pub before : List Segment
  pub after : List Segment
  pub is : all ≡ before ++ Live key run ∷ after
  pub earlier : find (live_runs before) key ≡ None

pub among : (all : List Segment) (key : ℕ) (run : List Cell) → find (live_runs all) key ≡ Some run → IsAmong all key run
among [] key run there = absurd (cc)
among (Live k cells ∷ rest) key run there = elim (eqb_tells k key) [
  | inl e ↦
      let hit : (if true then Some cells else find (live_runs rest) key) ≡ Some run = rw e.0 at there in
      let same : cells ≡ run = cc in
      record { before = []; after = rest; is = ap (λ j. Live j cells ∷ rest) e.1 ∙ ap (λ c. Live key c ∷ rest) same; earlier = refl }
  | inr e ↦
      let more = among rest key run (rw e.0 at there) in
      record { before = Live k cells ∷ more.before; after = more.after; is = ap (λ l. Live k cells ∷ l) more.is; earlier = rw e.0 more.earlier }
]
among (Dead cells ∷ rest) key run there =
    let more = among rest key run there in
    record { before = Dead cells ∷ more.before; after = more.after; is = ap (λ l. Dead cells ∷ l) more.is; earlier = more.earlier }

pub place-among : (before after : List Segment) (key : ℕ) (run : List Cell) → find (live_runs before) key ≡ None → place_of (before ++ Live key run ∷ after) key 0 ≡ Some (length (layout before))
place-among before after key run earlier =
    place_of-append before (Live key run ∷ after) key 0 (length (layout before)) (omega arith)
    ∙ ap (λ o. option_or o (place_of (Live key run ∷ after) key (length (layout before)))) (place-none before key 0 earlier)
    ∙ (let P : Bool → Type 0 = λ t. (if t then Some (length (layout before)) else place_of after key (length (layout before) + suc (length run))) ≡ Some (length (layout before)) in
    elim (eqb_tells key key) [ inl e ↦ rw e.0 refl | inr e ↦ absurd (e.1 refl) ])

-- a live run in the vector
pub record IsStanding (building : ℕ) (cells : List Cell) (places : Slab ℕ) (key : ℕ) (run : List Cell) : Type 0 where
  pub before : List Segment
  pub after : List Segment
  pub last : List Cell
  pub place : get places key ≡ Some (length (layout before))
  pub cells_are : cells ≡ layout before ++ (head (Live key run) ∷ run ++ (layout after ++ last))
  pub last_are : length last ≡ building
  pub places_are : (other : ℕ) → get places other ≡ place_of (before ++ Live key run ∷ after) other 0
  pub apart : AreApart (live_runs before ++ (key, run) ∷ live_runs after)
  pub runs_are : runs_in building cells ≡ live_runs before ++ (key, run) ∷ live_runs after
  pub none_before : find (live_runs before) key ≡ None
  pub none_after : find (live_runs after) key ≡ None

pub standing : (building : ℕ) (cells : List Cell) (places : Slab ℕ) (key : ℕ) (run : List Cell) → IsLaid building cells places → find (runs_in building cells) key ≡ Some run → IsStanding building cells places key run
standing building cells places key run laid there =
    let read = runs_in-laid building cells places laid in
    let a = among laid.ended key run (rw read at there) in
    let runs : live_runs laid.ended ≡ live_runs a.before ++ (key, run) ∷ live_runs a.after = ap live_runs a.is ∙ live_runs-append a.before (Live key run ∷ a.after) in
    let apart : AreApart (live_runs a.before ++ (key, run) ∷ live_runs a.after) = subst AreApart runs laid.apart in
    let only = apart-rest (live_runs a.before) (live_runs a.after) key run apart in
    record {
      before = a.before;
      after = a.after;
      last = laid.last;
      place = laid.places_are key ∙ ap (λ s. place_of s key 0) a.is ∙ place-among a.before a.after key run a.earlier;
      cells_are =
          laid.cells_are
          ∙ ap (λ s. layout s ++ laid.last) a.is
          ∙ ap (λ l. l ++ laid.last) (layout-append a.before (Live key run ∷ a.after))
          ∙ append_assoc (layout a.before) (layout (Live key run ∷ a.after)) laid.last
          ∙ ap (λ l. layout a.before ++ (head (Live key run) ∷ l)) (append_assoc run (layout a.after) laid.last);
      last_are = laid.last_are;
      places_are = λ other. laid.places_are other ∙ ap (λ s. place_of s other 0) a.is;
      apart = apart;
      runs_are = read ∙ runs;
      none_before = only.0;
      none_after = only.1;
    }
