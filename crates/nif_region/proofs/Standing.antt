-- A live run in the vector: its cells, a write to one of them, and its giving back.
use Rattle.std.proofs.Common.{ℕ, zero, suc, ◌+◌, ◌-◌, ◌<◌, ◌≤◌, ◌≡◌, ◌≢◌, ◌^◌, List, [], ◌∷◌, ◌++◌, length, min, Option, None, Some, true, false, if◌then◌else◌, nat_eq, sym, ◌∙◌, ap, refl, arith, inl, inr, subst, append_assoc, length-append, get_or}
use Rattle.std.specs.Option.{option_or, IsSomeAnd, is_some}
use Rattle.std.specs.Prelude.{IsSome, slice_set}
use Rattle.std.proofs.lemmas.List.{length-set, get_or-append-add, get_or_append_left, set-append_left, set-append_right}
use Rattle.std.proofs.Math.Seq.{set-append_seam, get_or-append_seam}
use Rattle.std.proofs.lemmas.Bool.Decides.{eqb_tells}
use Rattle.slab.specs.Slab.{Slab, get, slab_len, Updates, ContainsKey}
use Rattle.nif_region.specs.Contents.{find, without, put, AreApart, cells_of, cells_built}
use Rattle.nif_region.specs.Layout.{Segment, Live, Dead, head, own, layout, live_runs, place_of, runs_in, built_in, IsLaid, IsKept, Slides}
use Rattle.nif_region.specs.declared.cells.Cell.{Cell}
use Rattle.nif_region.specs.RunLaws.{find-append, find-without_same, find-without_other, without-append, put-append, without-none, put-none}
use Rattle.nif_region.proofs.Layouts.{layout-append, live_runs-append, place_of-append, runs_in-layout, runs_in-laid, cells_of-append, place-none, IsStanding, standing}
use Rattle.nif_region.proofs.Changes.{built-behind, cells_built-in, live-within}

-- a key stands for a run exactly where it has a place

pub the_run : (o : Option (List Cell)) (P : List Cell → Type 0) → IsSomeAnd o P → (run : List Cell) × (o ≡ Some run) × P run
the_run None P h = absurd h
the_run (Some run) P h = (run, refl, h)

pub some_run : (o : Option (List Cell)) → IsSome o → (run : List Cell) × (o ≡ Some run)
some_run None h = absurd (cc)
some_run (Some run) h = (run, refl)

pub has_place : {building : ℕ} {cells : List Cell} {places : Slab ℕ} {key : ℕ} {run : List Cell} → IsStanding building cells places key run → ContainsKey places key
has_place s = ap is_some s.place

pub live_has_place : (building : ℕ) (cells : List Cell) (places : Slab ℕ) (key : ℕ) → IsLaid building cells places → IsSome (find (runs_in building cells) key) → ContainsKey places key
live_has_place building cells places key laid some =
    let r = some_run (find (runs_in building cells) key) some in
    has_place (standing building cells places key r.0 laid r.1)

some_where : (a : Option (List Cell)) (b : Option ℕ) → (a ≡ None → b ≡ None) → IsSome b → IsSome a
some_where None b none some = absurd (let e = none refl in let f : is_some b ≡ false = ap is_some e in cc)
some_where (Some x) b none some = refl

pub place_is_live : (building : ℕ) (cells : List Cell) (places : Slab ℕ) (key : ℕ) → IsLaid building cells places → ContainsKey places key → IsSome (find (runs_in building cells) key)
place_is_live building cells places key laid has =
    some_where (find (runs_in building cells) key) (get places key) (
    λ none. laid.places_are key ∙ place-none laid.ended key 0 (sym (ap (λ r. find r key) (runs_in-laid building cells places laid)) ∙ none)
    ) has

pub the_place : {A : Type 0} (m n : A) (o : Option A) → o ≡ Some m → o ≡ Some n → m ≡ n
the_place m n o a b = cc

-- the values of a key may change

find-none_value : (a b : List (ℕ × List Cell)) (key k : ℕ) (v w : List Cell) → find (a ++ (key, v) ∷ b) k ≡ None → find (a ++ (key, w) ∷ b) k ≡ None
find-none_value [] b key k v w none = elim (eqb_tells key k) [
  | inl e ↦ absurd (let hit : (if true then Some v else find b k) ≡ None = rw e.0 at none in cc)
  | inr e ↦ rw e.0 (rw e.0 at none)
]
find-none_value (r ∷ rest) b key k v w none = elim (eqb_tells r.0 k) [
  | inl e ↦ absurd (let hit : (if true then Some r.1 else find (rest ++ (key, v) ∷ b) k) ≡ None = rw e.0 at none in cc)
  | inr e ↦ rw e.0 (find-none_value rest b key k v w (rw e.0 at none))
]

find-none_without : (a b : List (ℕ × List Cell)) (key k : ℕ) (v : List Cell) → find (a ++ (key, v) ∷ b) k ≡ None → find (a ++ b) k ≡ None
find-none_without [] b key k v none = elim (eqb_tells key k) [
  | inl e ↦ absurd (let hit : (if true then Some v else find b k) ≡ None = rw e.0 at none in cc)
  | inr e ↦ rw e.0 at none
]
find-none_without (r ∷ rest) b key k v none = elim (eqb_tells r.0 k) [
  | inl e ↦ absurd (let hit : (if true then Some r.1 else find (rest ++ (key, v) ∷ b) k) ≡ None = rw e.0 at none in cc)
  | inr e ↦ rw e.0 (find-none_without rest b key k v (rw e.0 at none))
]

apart-value : (a b : List (ℕ × List Cell)) (key : ℕ) (v w : List Cell) → AreApart (a ++ (key, v) ∷ b) → AreApart (a ++ (key, w) ∷ b)
apart-value [] b key v w apart = apart
apart-value (r ∷ rest) b key v w apart = (find-none_value rest b key r.0 v w apart.0, apart-value rest b key v w apart.1)

apart-without : (a b : List (ℕ × List Cell)) (key : ℕ) (v : List Cell) → AreApart (a ++ (key, v) ∷ b) → AreApart (a ++ b)
apart-without [] b key v apart = apart.1
apart-without (r ∷ rest) b key v apart = (find-none_without rest b key r.0 v apart.0, apart-without rest b key v apart.1)

put-between : (a b : List (ℕ × List Cell)) (key : ℕ) (v w : List Cell) → find a key ≡ None → find b key ≡ None → put key w (a ++ (key, v) ∷ b) ≡ a ++ (key, w) ∷ b
put-between a b key v w before after = elim (eqb_tells key key) [
  | inl e ↦
      put-append key w a ((key, v) ∷ b)
      ∙ ap (λ l. l ++ put key w ((key, v) ∷ b)) (put-none key w a before)
      ∙ ap (λ l. a ++ l) (rw e.0 (ap (λ l. (key, w) ∷ l) (put-none key w b after)))
  | inr e ↦ absurd (e.1 refl)
]

without-between : (a b : List (ℕ × List Cell)) (key : ℕ) (v : List Cell) → find a key ≡ None → find b key ≡ None → without key (a ++ (key, v) ∷ b) ≡ a ++ b
without-between a b key v before after = elim (eqb_tells key key) [
  | inl e ↦
      without-append key a ((key, v) ∷ b)
      ∙ ap (λ l. l ++ without key ((key, v) ∷ b)) (without-none key a before)
      ∙ ap (λ l. a ++ l) (rw e.0 (without-none key b after))
  | inr e ↦ absurd (e.1 refl)
]

-- the cells at the end alone tell the run that is being built
pub built-last : (building : ℕ) (front other last : List Cell) → length last ≡ building → built_in building (front ++ last) ≡ built_in building (other ++ last)
built-last zero front other last e = refl
built-last (suc more) front other [] e = absurd (omega arith)
built-last (suc more) front other (first ∷ rest) e =
    let count : suc more ≡ suc (length rest) = sym e in
    ap (λ b. built_in b (front ++ first ∷ rest)) count
    ∙ built-behind front first rest
    ∙ sym (built-behind other first rest)
    ∙ ap (λ b. built_in b (other ++ first ∷ rest)) (sym count)

-- places, where another run of as many cells stands

place-own : (after : List Segment) (key other at : ℕ) (run new : List Cell) → length new ≡ length run → place_of (Live key new ∷ after) other at ≡ place_of (Live key run ∷ after) other at
place-own after key other at run new e = ap (λ n. if nat_eq key other then Some at else place_of after other (at + suc n)) e

place-between : (before after : List Segment) (key other : ℕ) (run new : List Cell) → length new ≡ length run → place_of (before ++ Live key new ∷ after) other 0 ≡ place_of (before ++ Live key run ∷ after) other 0
place-between before after key other run new e =
    place_of-append before (Live key new ∷ after) other 0 (length (layout before)) (omega arith)
    ∙ ap (λ o. option_or (place_of before other 0) o) (place-own after key other (length (layout before)) run new e)
    ∙ sym (place_of-append before (Live key run ∷ after) other 0 (length (layout before)) (omega arith))

place-dead : (before after : List Segment) (key other : ℕ) (run : List Cell) → other ≢ key → place_of (before ++ Dead run ∷ after) other 0 ≡ place_of (before ++ Live key run ∷ after) other 0
place-dead before after key other run ne =
    place_of-append before (Dead run ∷ after) other 0 (length (layout before)) (omega arith)
    ∙ ap (λ o. option_or (place_of before other 0) o) (
    let same : place_of (Dead run ∷ after) other (length (layout before)) ≡ place_of (Live key run ∷ after) other (length (layout before)) =
    elim (eqb_tells key other) [ inl e ↦ absurd (ne (sym e.1)) | inr e ↦ rw e.0 refl ] in
    same
    )
    ∙ sym (place_of-append before (Live key run ∷ after) other 0 (length (layout before)) (omega arith))

module _ {building : ℕ} {cells : List Cell} {places : Slab ℕ} {key : ℕ} {run : List Cell} (s : IsStanding building cells places key run) where
  abbrev pub at : ℕ
  at = length (layout s.before)

  -- what stands behind its cells
  abbrev pub behind : List Cell
  behind = layout s.after ++ s.last

  pub run-within : at + 1 + length run + building ≤ length cells
  run-within =
      let e = ap length s.cells_are in
      let b = s.last_are in
      omega (arith, length-append (layout s.before) (head (Live key run) ∷ run ++ behind), length-append run behind, length-append (layout s.after) s.last)

  pub head-read : (d : Cell) → get_or cells at d ≡ head (Live key run)
  head-read d = ap (λ c. get_or c at d) s.cells_are ∙ get_or-append_seam (layout s.before) (head (Live key run)) (run ++ behind) d

  pub cell-read : (place : ℕ) (d : Cell) → place < length run → get_or cells (at + 1 + place) d ≡ get_or run place d
  cell-read place d l =
      let there : at + 1 + place ≡ at + suc place = omega arith in
      ap (λ n. get_or cells n d) there
      ∙ ap (λ c. get_or c (at + suc place) d) s.cells_are
      ∙ get_or-append-add (layout s.before) (head (Live key run) ∷ run ++ behind) (suc place) d
      ∙ get_or_append_left run behind d place l

  -- a write to one of its cells

  pub cell-set : (place : ℕ) (cell : Cell) → place < length run → slice_set cells (at + 1 + place) cell ≡ layout s.before ++ (head (Live key (slice_set run place cell)) ∷ slice_set run place cell ++ behind)
  cell-set place cell l =
      let there : at + 1 + place - at ≡ suc place = omega arith in
      ap (λ c. slice_set c (at + 1 + place) cell) s.cells_are
      ∙ set-append_right (layout s.before) (head (Live key run) ∷ run ++ behind) at (at + 1 + place) cell refl (omega arith)
      ∙ ap (λ n. layout s.before ++ slice_set (head (Live key run) ∷ run ++ behind) n cell) there
      ∙ ap (λ r. layout s.before ++ (head (Live key run) ∷ r)) (set-append_left run behind place cell l)
      ∙ ap (λ n. layout s.before ++ (record { kind = 1; size = n; bits = key } ∷ slice_set run place cell ++ behind)) (sym (length-set run place cell))

  -- cells before and behind another segment in its place
  pub front_of : (segment : Segment) → layout s.before ++ (head segment ∷ own segment ++ behind) ≡ layout (s.before ++ segment ∷ s.after) ++ s.last
  front_of segment =
      ap (λ r. layout s.before ++ (head segment ∷ r)) (sym (append_assoc (own segment) (layout s.after) s.last))
      ∙ sym (append_assoc (layout s.before) (layout (segment ∷ s.after)) s.last)
      ∙ ap (λ l. l ++ s.last) (sym (layout-append s.before (segment ∷ s.after)))

  pub same-built : (segment : Segment) (new : List Cell) → new ≡ layout s.before ++ (head segment ∷ own segment ++ behind) → built_in building new ≡ built_in building cells
  same-built segment new is =
      ap (built_in building) (is ∙ front_of segment)
      ∙ built-last building (layout (s.before ++ segment ∷ s.after)) (layout (s.before ++ Live key run ∷ s.after)) s.last s.last_are
      ∙ sym (ap (built_in building) (s.cells_are ∙ front_of (Live key run)))

  pub laid-set : (place : ℕ) (cell : Cell) → place < length run → IsLaid building (slice_set cells (at + 1 + place) cell) places
  laid-set place cell l = record {
    ended = s.before ++ Live key (slice_set run place cell) ∷ s.after;
    last = s.last;
    cells_are = cell-set place cell l ∙ front_of (Live key (slice_set run place cell));
    last_are = s.last_are;
    places_are = λ other. s.places_are other ∙ sym (place-between s.before s.after key other run (slice_set run place cell) (length-set run place cell));
    apart = subst AreApart (sym (live_runs-append s.before (Live key (slice_set run place cell) ∷ s.after))) (apart-value (live_runs s.before) (live_runs s.after) key run (slice_set run place cell) s.apart);
  }

  runs-written : (place : ℕ) (cell : Cell) → place < length run → runs_in building (slice_set cells (at + 1 + place) cell) ≡ live_runs s.before ++ (key, slice_set run place cell) ∷ live_runs s.after
  runs-written place cell l =
      ap (runs_in building) (cell-set place cell l ∙ front_of (Live key (slice_set run place cell)))
      ∙ runs_in-layout (s.before ++ Live key (slice_set run place cell) ∷ s.after) s.last building s.last_are
      ∙ live_runs-append s.before (Live key (slice_set run place cell) ∷ s.after)

  pub runs-set : (place : ℕ) (cell : Cell) → place < length run → runs_in building (slice_set cells (at + 1 + place) cell) ≡ put key (slice_set run place cell) (runs_in building cells)
  runs-set place cell l =
      runs-written place cell l
      ∙ sym (put-between (live_runs s.before) (live_runs s.after) key run (slice_set run place cell) s.none_before s.none_after)
      ∙ ap (put key (slice_set run place cell)) (sym s.runs_are)

  pub sum-set : (place : ℕ) (cell : Cell) → place < length run → cells_of (runs_in building (slice_set cells (at + 1 + place) cell)) ≡ cells_of (runs_in building cells)
  sum-set place cell l =
      ap cells_of (runs-written place cell l)
      ∙ cells_of-append (live_runs s.before) ((key, slice_set run place cell) ∷ live_runs s.after)
      ∙ ap (λ n. cells_of (live_runs s.before) + (n + 1 + cells_of (live_runs s.after))) (length-set run place cell)
      ∙ sym (cells_of-append (live_runs s.before) ((key, run) ∷ live_runs s.after))
      ∙ ap cells_of (sym s.runs_are)

  pub kept-set : (live place : ℕ) (cell : Cell) → place < length run → IsKept cells places live building → IsKept (slice_set cells (at + 1 + place) cell) places live building
  kept-set live place cell l k = record {
    laid = laid-set place cell l;
    live_are = k.live_are ∙ sym (sum-set place cell l);
    bound = let b = k.bound in omega (arith, length-set cells (at + 1 + place) cell);
    fits = k.fits;
    room = k.room;
  }

  pub same_built-set : (place : ℕ) (cell : Cell) → place < length run → built_in building (slice_set cells (at + 1 + place) cell) ≡ built_in building cells
  same_built-set place cell l = same-built (Live key (slice_set run place cell)) (slice_set cells (at + 1 + place) cell) (cell-set place cell l)

  -- its giving back

  abbrev pub given : List Cell
  given = slice_set cells at (head (Dead run))

  pub given-is : given ≡ layout s.before ++ (head (Dead run) ∷ run ++ behind)
  given-is = ap (λ c. slice_set c at (head (Dead run))) s.cells_are ∙ set-append_seam (layout s.before) (head (Live key run)) (run ++ behind) (head (Dead run))

  pub laid-given : (new_places : Slab ℕ) → Updates places new_places key None → IsLaid building given new_places
  laid-given new_places updates = record {
    ended = s.before ++ Dead run ∷ s.after;
    last = s.last;
    cells_are = given-is ∙ front_of (Dead run);
    last_are = s.last_are;
    places_are = λ other. elim (eqb_tells other key) [
      | inl e ↦
          subst (λ n. get new_places n ≡ place_of (s.before ++ Dead run ∷ s.after) n 0) (sym e.1) (
          updates.changed
          ∙ sym (
          place-none (s.before ++ Dead run ∷ s.after) key 0 (
          ap (λ r. find r key) (live_runs-append s.before (Dead run ∷ s.after))
          ∙ find-append (live_runs s.before) (live_runs s.after) key
          ∙ ap (λ o. option_or o (find (live_runs s.after) key)) s.none_before
          ∙ s.none_after
          )
          )
          )
      | inr e ↦ updates.others other e.1 ∙ s.places_are other ∙ sym (place-dead s.before s.after key other run e.1)
    ];
    apart = subst AreApart (sym (live_runs-append s.before (Dead run ∷ s.after))) (apart-without (live_runs s.before) (live_runs s.after) key run s.apart);
  }

  runs-left : runs_in building given ≡ live_runs s.before ++ live_runs s.after
  runs-left =
      ap (runs_in building) (given-is ∙ front_of (Dead run))
      ∙ runs_in-layout (s.before ++ Dead run ∷ s.after) s.last building s.last_are
      ∙ live_runs-append s.before (Dead run ∷ s.after)

  pub runs-given : runs_in building given ≡ without key (runs_in building cells)
  runs-given =
      runs-left
      ∙ sym (without-between (live_runs s.before) (live_runs s.after) key run s.none_before s.none_after)
      ∙ ap (without key) (sym s.runs_are)

  pub sum-given : cells_of (runs_in building cells) ≡ cells_of (runs_in building given) + (length run + 1)
  sum-given =
      let all = ap cells_of s.runs_are ∙ cells_of-append (live_runs s.before) ((key, run) ∷ live_runs s.after) in
      let left = ap cells_of runs-left ∙ cells_of-append (live_runs s.before) (live_runs s.after) in
      omega arith

  pub built-given : built_in building given ≡ built_in building cells
  built-given = same-built (Dead run) given given-is

-- a cell of a live run, whose head was found at a place
pub record IsHeld (building : ℕ) (cells : List Cell) (places : Slab ℕ) (key first place : ℕ) : Type 0 where
  pub run : List Cell
  pub there : find (runs_in building cells) key ≡ Some run
  pub less : place < length run
  pub stands : IsStanding building cells places key run
  pub is : first ≡ at stands

pub held : (building : ℕ) (cells : List Cell) (places : Slab ℕ) (key first place : ℕ) → IsLaid building cells places → IsSomeAnd (find (runs_in building cells) key) (λ run. place < length run) → get places key ≡ Some first → IsHeld building cells places key first place
held building cells places key first place laid has at_first =
    let r = the_run (find (runs_in building cells) key) (λ run. place < length run) has in
    let s = standing building cells places key r.0 laid r.1 in
    record { run = r.0; there = r.1; less = r.2; stands = s; is = the_place first (at s) (get places key) at_first s.place }

pub held-within : (building : ℕ) (cells : List Cell) (places : Slab ℕ) (key first place : ℕ) → IsHeld building cells places key first place → first + 1 + place < length cells
held-within building cells places key first place h = let w = run-within h.stands in let e = h.is in let l = h.less in omega arith

-- after a slide

pub kept-slid : (building live : ℕ) (old new : List Cell) (old_places new_places : Slab ℕ) → live ≡ cells_of (runs_in building old) → Slides building old old_places new new_places → building < 2 ^ 32 → slab_len old_places + min building 1 ≤ old_places.capacity → IsKept new new_places live building
kept-slid building live old new old_places new_places live_are slides fits room = record {
  laid = slides.laid;
  live_are = live_are ∙ ap cells_of (sym slides.same_runs);
  bound = let c = slides.compact in omega arith;
  fits = fits;
  room = let k = slides.same_keys in let c = slides.same_capacity in omega arith;
}

pub slid-shorter : {building live : ℕ} {cells : List Cell} {places : Slab ℕ} (k : IsKept cells places live building) (new : List Cell) (new_places : Slab ℕ) → Slides building cells places new new_places → length new ≤ length cells
slid-shorter k new new_places slides = let c = slides.compact in let l = live-within k in let e = k.live_are in omega arith

pub first-within : (building : ℕ) (cells : List Cell) (places : Slab ℕ) (key first : ℕ) → IsLaid building cells places → IsSome (find (runs_in building cells) key) → get places key ≡ Some first → first < length cells
first-within building cells places key first laid live at_first =
    let r = some_run (find (runs_in building cells) key) live in
    let s = standing building cells places key r.0 laid r.1 in
    let p = the_place first (at s) (get places key) at_first s.place in
    let w = run-within s in
    omega arith

-- a live run was given back
pub record IsGiven (building : ℕ) (cells : List Cell) (live key size : ℕ) (new : List Cell) (new_places : Slab ℕ) : Type 0 where
  pub less : size + 1 ≤ live
  pub laid : IsLaid building new new_places
  pub live_are : live - (size + 1) ≡ cells_of (runs_in building new)
  pub runs : runs_in building new ≡ without key (runs_in building cells)
  pub gone : find (runs_in building new) key ≡ None
  pub others : (other : ℕ) → other ≢ key → find (runs_in building new) other ≡ find (runs_in building cells) other
  pub same_built : built_in building new ≡ built_in building cells
  pub same_length : length new ≡ length cells
  pub count : live + building ≤ length cells
  pub built_count : cells_built (built_in building new) ≡ building

pub given-back : {building live : ℕ} {cells : List Cell} {places : Slab ℕ} (k : IsKept cells places live building) (key first : ℕ) (found : Cell) (new : List Cell) (new_places : Slab ℕ) → IsSome (find (runs_in building cells) key) → get places key ≡ Some first → found ≡ get_or cells first found → new ≡ slice_set cells first (record { kind = 0; size = found.size; bits = 0 }) → Updates places new_places key None → IsGiven building cells live key found.size new new_places
given-back {building} {live} {cells} {places} k key first found new new_places some at_first read new_is updates =
    let r = some_run (find (runs_in building cells) key) some in
    let s = standing building cells places key r.0 k.laid r.1 in
    let p = the_place first (at s) (get places key) at_first s.place in
    let size : found.size ≡ length r.0 = ap (λ c. c.size) (read ∙ ap (λ n. get_or cells n found) p ∙ head-read s found) in
    let is : new ≡ given s = new_is ∙ ap (λ n. slice_set cells n (record { kind = 0; size = found.size; bits = 0 })) p ∙ ap (λ n. slice_set cells (at s) (record { kind = 0; size = n; bits = 0 })) size in
    let runs : runs_in building new ≡ without key (runs_in building cells) = ap (runs_in building) is ∙ runs-given s in
    let sum = sum-given s in
    let same = ap (λ c. cells_of (runs_in building c)) is in
    let all = k.live_are in
    let count = live-within k in
    let same_built = ap (built_in building) is ∙ built-given s in
    record {
      less = omega arith;
      laid = subst (λ c. IsLaid building c new_places) (sym is) (laid-given s new_places updates);
      live_are = omega arith;
      runs = runs;
      gone = ap (λ r. find r key) runs ∙ find-without_same key (runs_in building cells);
      others = λ other ne. ap (λ r. find r other) runs ∙ find-without_other key other (runs_in building cells) ne;
      same_built = same_built;
      same_length = ap length is ∙ length-set cells (at s) (head (Dead r.0));
      count = count;
      built_count = ap cells_built same_built ∙ cells_built-in building cells (omega arith);
    }
