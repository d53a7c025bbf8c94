-- What the changes of the vector leave.
use Rattle.std.proofs.Common.{ℕ, zero, suc, ◌+◌, ◌-◌, ◌<◌, ◌≤◌, ◌≡◌, ◌≢◌, ◌^◌, List, [], ◌∷◌, ◌++◌, length, take, drop, min, Option, None, Some, true, if◌then◌else◌, sym, ◌∙◌, ap, refl, arith, inl, inr, subst, append_assoc, length-append, lit<}
use Rattle.std.specs.Option.{option_or, IsSomeAnd}
use Rattle.std.specs.Prelude.{IsSome, slice_set}
use Rattle.std.proofs.lemmas.List.{append-nil, length-set, length-drop, set-append_right, drop-set-add}
use Rattle.std.proofs.Math.Seq.{take-append_seam, drop-append_seam, set-append_seam}
use Rattle.std.proofs.lemmas.Bool.Decides.{eqb_tells}
use Rattle.slab.specs.Slab.{Slab, get, slab_len, Updates}
use Rattle.nif_region.specs.Contents.{find, AreApart, cells_of, cells_built, ended, patched, IsBounded}
use Rattle.nif_region.specs.Layout.{Segment, Live, Dead, head, layout, live_runs, place_of, runs_in, built_in, contents, IsLaid, IsKept}
use Rattle.nif_region.specs.declared.cells.Cell.{Cell}
use Rattle.nif_region.specs.RunLaws.{find-append}
use Rattle.nif_region.proofs.Layouts.{layout-append, live_runs-append, place_of-append, runs_in-layout, runs_in-laid, live_cells-within, cells_of-append, place-none, place-among}

-- the run that is being built

pub built-none : (building : ℕ) (cells : List Cell) → built_in building cells ≡ None → building ≡ 0
built-none zero cells none = refl
built-none (suc more) cells none = absurd (cc)

pub built-some : (building : ℕ) (cells : List Cell) → IsSome (built_in building cells) → 0 < building
built-some zero cells some = absurd (cc)
built-some (suc more) cells some = omega arith

pub cells_built-in : (building : ℕ) (cells : List Cell) → building ≤ length cells → cells_built (built_in building cells) ≡ building
cells_built-in zero cells l = refl
cells_built-in (suc more) cells l = simp length-drop (omega arith)

pub built-within : (building : ℕ) (cells : List Cell) (bound : ℕ) → building ≤ length cells → IsSomeAnd (built_in building cells) (λ built. length built < bound) → (0 < building) × (building ≤ bound)
built-within zero cells bound l some = absurd some
built-within (suc more) cells bound l some = (omega arith, omega (arith, length-drop (length cells - more) cells))

pub built-place : (building : ℕ) (cells : List Cell) (place : ℕ) → building ≤ length cells → IsSomeAnd (built_in building cells) (λ built. place < length built) → place + 1 < building
built-place zero cells place l some = absurd some
built-place (suc more) cells place l some = omega (arith, length-drop (length cells - more) cells)

module _ {building live : ℕ} {cells : List Cell} {places : Slab ℕ} (k : IsKept cells places live building) where
  pub length-kept : length cells ≡ length (layout k.laid.ended) + building
  length-kept = let e = ap length k.laid.cells_are in omega (arith, length-append (layout k.laid.ended) k.laid.last, k.laid.last_are)

  pub runs-kept : runs_in building cells ≡ live_runs k.laid.ended
  runs-kept = runs_in-laid building cells places k.laid

  pub live-kept : live ≡ cells_of (live_runs k.laid.ended)
  live-kept = k.live_are ∙ ap cells_of runs-kept

  pub live-within : live + building ≤ length cells
  live-within = let a = live_cells-within k.laid.ended in let b = length-kept in let e = live-kept in omega arith

  pub bounded : (capacity : ℕ) → IsBounded (contents cells capacity places building)
  bounded capacity =
      let l = length-kept in
      let e = cells_built-in building cells (omega arith) in
      let b = k.bound in
      let live_are = k.live_are in
      omega arith

  -- another run at the end, the ended ones as before
  pub kept-last : (last : List Cell) (new : List Cell) (new_places : Slab ℕ) (more : ℕ) → new ≡ layout k.laid.ended ++ last → length last ≡ more → ((key : ℕ) → get new_places key ≡ get places key) → more < 2 ^ 32 → slab_len new_places + min more 1 ≤ new_places.capacity → IsKept new new_places live more
  kept-last last new new_places more is count same fits room =
      let laid : IsLaid more new new_places = record {
        ended = k.laid.ended;
        last = last;
        cells_are = is;
        last_are = count;
        places_are = λ key. same key ∙ k.laid.places_are key;
        apart = k.laid.apart;
      } in
      record {
        laid = laid;
        live_are = live-kept ∙ ap cells_of (sym (runs_in-laid more new new_places laid));
        bound =
            let l = length-kept in
            let e = ap length is in
            let b = k.bound in
            omega (arith, length-append (layout k.laid.ended) last);
        fits = fits;
        room = room;
      }

  pub runs-last : (last : List Cell) (new : List Cell) (more : ℕ) → new ≡ layout k.laid.ended ++ last → length last ≡ more → runs_in more new ≡ runs_in building cells
  runs-last last new more is count = ap (λ c. runs_in more c) is ∙ runs_in-layout k.laid.ended last more count ∙ sym runs-kept

  -- one more cell at the end
  pub pushed-is : (cell : Cell) → cells ++ cell ∷ [] ≡ layout k.laid.ended ++ (k.laid.last ++ cell ∷ [])
  pushed-is cell = ap (λ l. l ++ cell ∷ []) k.laid.cells_are ∙ append_assoc (layout k.laid.ended) k.laid.last (cell ∷ [])

  pub pushed-count : (cell : Cell) → length (k.laid.last ++ cell ∷ []) ≡ building + 1
  pushed-count cell = let e = k.laid.last_are in omega (arith, length-append k.laid.last (cell ∷ []))

  -- without the run that is being built
  pub dropped-is : take (length cells - building) cells ≡ layout k.laid.ended ++ []
  dropped-is =
      let count : length cells - building ≡ length (layout k.laid.ended) = let l = length-kept in omega arith in
      ap (λ n. take n cells) count
      ∙ ap (λ c. take (length (layout k.laid.ended)) c) k.laid.cells_are
      ∙ take-append_seam (layout k.laid.ended) k.laid.last
      ∙ sym (append-nil (layout k.laid.ended))

  -- another cell in the run that is being built
  pub patched-is : (place : ℕ) (cell : Cell) → place + 1 < building → slice_set cells (length cells - building + 1 + place) cell ≡ layout k.laid.ended ++ slice_set k.laid.last (length cells - building + 1 + place - length (layout k.laid.ended)) cell
  patched-is place cell l =
      let count = length-kept in
      ap (λ c. slice_set c (length cells - building + 1 + place) cell) k.laid.cells_are
      ∙ set-append_right (layout k.laid.ended) k.laid.last (length (layout k.laid.ended)) (length cells - building + 1 + place) cell refl (omega arith)

pub patched-built : (building : ℕ) (cells : List Cell) (place : ℕ) (cell : Cell) → building ≤ length cells → place + 1 < building → built_in building (slice_set cells (length cells - building + 1 + place) cell) ≡ patched (built_in building cells) place cell
patched-built zero cells place cell l p = absurd (omega arith)
patched-built (suc more) cells place cell l p =
    let at : length cells - suc more + 1 + place ≡ (length cells - more) + place = omega arith in
    let long : length (slice_set cells (length cells - suc more + 1 + place) cell) - more ≡ length cells - more = omega (arith, length-set cells (length cells - suc more + 1 + place) cell) in
    ap Some (
    ap (λ n. drop n (slice_set cells (length cells - suc more + 1 + place) cell)) long
    ∙ ap (λ n. drop (length cells - more) (slice_set cells n cell)) at
    ∙ drop-set-add (length cells - more) cells place cell
    )

-- a run is ended

pub first_of : (building : ℕ) (last : List Cell) → 0 < building → length last ≡ building → (first : Cell) × (rest : List Cell) × (last ≡ first ∷ rest)
first_of building [] l e = absurd (omega arith)
first_of building (first ∷ rest) l e = (first, rest, refl)

pub option_or-none : {T : Type 0} (o : Option T) → option_or o None ≡ o
option_or-none None = refl
option_or-none (Some x) = refl

pub place-found : (all : List Segment) (key at : ℕ) → place_of all key at ≡ None → find (live_runs all) key ≡ None
place-found [] key at none = refl
place-found (Live k cells ∷ rest) key at none = elim (eqb_tells k key) [
  | inl e ↦ absurd (let hit : (if true then Some at else place_of rest key (at + suc (length cells))) ≡ None = rw e.0 at none in cc)
  | inr e ↦ rw e.0 (place-found rest key (at + suc (length cells)) (rw e.0 at none))
]
place-found (Dead cells ∷ rest) key at none = place-found rest key (at + suc (length cells)) none

pub find-one_other : (key other : ℕ) (run : List Cell) → other ≢ key → find ((key, run) ∷ []) other ≡ None
find-one_other key other run ne = elim (eqb_tells key other) [ inl e ↦ absurd (ne (sym e.1)) | inr e ↦ rw e.0 refl ]

pub find-one_same : (key : ℕ) (run : List Cell) → find ((key, run) ∷ []) key ≡ Some run
find-one_same key run = elim (eqb_tells key key) [ inl e ↦ rw e.0 refl | inr e ↦ absurd (e.1 refl) ]

pub apart-more : (a : List (ℕ × List Cell)) (key : ℕ) (run : List Cell) → AreApart a → find a key ≡ None → AreApart (a ++ (key, run) ∷ [])
apart-more [] key run apart none = (refl, tt)
apart-more (r ∷ rest) key run apart none = elim (eqb_tells r.0 key) [
  | inl e ↦ absurd (let hit : (if true then Some r.1 else find rest key) ≡ None = rw e.0 at none in cc)
  | inr e ↦
      let other : find ((key, run) ∷ []) r.0 ≡ None = find-one_other key r.0 run e.1 in (
        find-append rest ((key, run) ∷ []) r.0 ∙ ap (λ o. option_or o (find ((key, run) ∷ []) r.0)) apart.0 ∙ other,
        apart-more rest key run apart.1 (rw e.0 at none),
      )
]

pub built-behind : (front : List Cell) (first : Cell) (rest : List Cell) → built_in (suc (length rest)) (front ++ first ∷ rest) ≡ Some rest
built-behind front first rest =
    let count : length (front ++ first ∷ rest) - length rest ≡ length (front ++ first ∷ []) = omega (arith, length-append front (first ∷ rest), length-append front (first ∷ [])) in
    ap Some (
    ap (λ n. drop n (front ++ first ∷ rest)) count
    ∙ ap (λ c. drop (length (front ++ first ∷ [])) c) (sym (append_assoc front (first ∷ []) rest))
    ∙ drop-append_seam (front ++ first ∷ []) rest
    )

module _ {building live : ℕ} {cells : List Cell} {places : Slab ℕ} (k : IsKept cells places live building) (new_places : Slab ℕ) (key : ℕ) where
  abbrev pub closed : List Cell
  closed = slice_set cells (length cells - building) (record { kind = 1; size = building - 1; bits = key })

  pub record Closes : Type 0 where
    pub kept : IsKept closed new_places (live + building) 0
    pub fresh : find (runs_in building cells) key ≡ None
    pub runs : runs_in 0 closed ≡ ended (runs_in building cells) key (built_in building cells)
    pub run : find (runs_in 0 closed) key ≡ built_in building cells
    pub others : (other : ℕ) → other ≢ key → find (runs_in 0 closed) other ≡ find (runs_in building cells) other

  pub closes : 0 < building → get places key ≡ None → Updates places new_places key (Some (length cells - building)) → slab_len new_places ≡ slab_len places + 1 → new_places.capacity ≡ places.capacity → Closes
  closes some vacant updates len capacity =
      let f = first_of building k.laid.last some k.laid.last_are in
      let rest = f.1 in
      let all = k.laid.ended in
      let count : building ≡ suc (length rest) = sym k.laid.last_are ∙ ap length f.2 in
      let length_is = length-kept k in
      let at : length cells - building ≡ length (layout all) = omega arith in
      let cells_are : cells ≡ layout all ++ f.0 ∷ rest = k.laid.cells_are ∙ ap (λ l. layout all ++ l) f.2 in
      let new_head : Cell = record { kind = 1; size = building - 1; bits = key } in
      let own_size : building - 1 ≡ length rest = omega arith in
      let closed_is : closed ≡ layout all ++ head (Live key rest) ∷ rest =
      ap (λ n. slice_set cells n new_head) at
      ∙ ap (λ c. slice_set c (length (layout all)) new_head) cells_are
      ∙ set-append_seam (layout all) f.0 rest new_head
      ∙ ap (λ n. layout all ++ record { kind = 1; size = n; bits = key } ∷ rest) own_size in
      let more : List Segment = all ++ Live key rest ∷ [] in
      let laid_is : closed ≡ layout more ++ [] =
      closed_is
      ∙ ap (λ r. layout all ++ head (Live key rest) ∷ r) (sym (append-nil rest))
      ∙ sym (layout-append all (Live key rest ∷ []))
      ∙ sym (append-nil (layout more)) in
      let none : find (live_runs all) key ≡ None = place-found all key 0 (sym (k.laid.places_are key) ∙ vacant) in
      let runs_more : live_runs more ≡ live_runs all ++ (key, rest) ∷ [] = live_runs-append all (Live key rest ∷ []) in
      let laid : IsLaid 0 closed new_places = record {
        ended = more;
        last = [];
        cells_are = laid_is;
        last_are = refl;
        places_are = λ other. elim (eqb_tells other key) [
          | inl e ↦ subst (λ n. get new_places n ≡ place_of more n 0) (sym e.1) (updates.changed ∙ ap Some at ∙ sym (place-among all [] key rest none))
          | inr e ↦
              updates.others other e.1
              ∙ k.laid.places_are other
              ∙ sym (option_or-none (place_of all other 0))
              ∙ ap (λ o. option_or (place_of all other 0) o) (sym (place-none (Live key rest ∷ []) other (length (layout all)) (find-one_other key other rest e.1)))
              ∙ sym (place_of-append all (Live key rest ∷ []) other 0 (length (layout all)) (omega arith))
        ];
        apart = subst AreApart (sym runs_more) (apart-more (live_runs all) key rest k.laid.apart none);
      } in
      let read : runs_in 0 closed ≡ live_runs all ++ (key, rest) ∷ [] = runs_in-laid 0 closed new_places laid ∙ runs_more in
      let built : built_in building cells ≡ Some rest = ap (λ b. built_in b cells) count ∙ ap (built_in (suc (length rest))) cells_are ∙ built-behind (layout all) f.0 rest in
      let old = runs-kept k in
      record {
        kept = record {
          laid = laid;
          live_are =
              let live_is = live-kept k in
              let sum = ap cells_of read ∙ cells_of-append (live_runs all) ((key, rest) ∷ []) in
              omega arith;
          bound = let b = k.bound in omega (arith, length-set cells (length cells - building) new_head);
          fits = lit< tt;
          room = let room = k.room in omega arith;
        };
        fresh = ap (λ r. find r key) old ∙ none;
        runs = read ∙ ap (λ r. r ++ (key, rest) ∷ []) (sym old) ∙ ap (ended (runs_in building cells) key) (sym built);
        run = ap (λ r. find r key) read ∙ find-append (live_runs all) ((key, rest) ∷ []) key ∙ ap (λ o. option_or o (find ((key, rest) ∷ []) key)) none ∙ find-one_same key rest ∙ sym built;
        others = λ other ne.
            ap (λ r. find r other) read
            ∙ find-append (live_runs all) ((key, rest) ∷ []) other
            ∙ ap (λ o. option_or (find (live_runs all) other) o) (find-one_other key other rest ne)
            ∙ option_or-none (find (live_runs all) other)
            ∙ ap (λ r. find r other) (sym old);
      }
