-- The slide, run by run.
use Rattle.std.proofs.Common.{ℕ, suc, ◌+◌, ◌-◌, ◌<◌, ◌≤◌, ◌≡◌, ◌≢◌, List, [], ◌∷◌, ◌++◌, length, take, drop, None, Some, sym, ◌∙◌, ap, refl, arith, inl, inr, subst, append_assoc, length-append, get_or}
use Rattle.std.specs.Option.{option_or}
use Rattle.std.specs.List.{copy_within}
use Rattle.std.proofs.lemmas.List.{append-nil, length-drop, drop-append-le}
use Rattle.std.proofs.Math.Seq.{take-append_seam, drop-append_seam, drop-append-add, get_or-append_seam}
use Rattle.std.proofs.lemmas.Bool.Decides.{eqb_tells}
use Rattle.slab.specs.Slab.{Slab, get, slab_len}
use Rattle.nif_region.specs.Contents.{find, AreApart, cells_of}
use Rattle.nif_region.specs.Layout.{Segment, Live, Dead, head, own, layout, live_runs, place_of, runs_in, built_in, IsLaid, Slides}
use Rattle.nif_region.specs.declared.cells.Cell.{Cell}
use Rattle.nif_region.specs.RunLaws.{apart-rest}
use Rattle.nif_region.proofs.Layouts.{layout-append, live_runs-append, place_of-append, runs_in-laid, cells_of-append, place-none, place-among}
use Rattle.nif_region.proofs.Changes.{option_or-none, find-one_other}
use Rattle.nif_region.proofs.Standing.{built-last}

-- a part of a list copied towards the front, over what stood between
pub copied : (front gap part rest : List Cell) → copy_within (front ++ (gap ++ (part ++ rest))) (length front + length gap) (length front + length gap + length part) (length front) ≡ front ++ (part ++ (drop (length part) (gap ++ part) ++ rest))
copied front gap part rest =
    let all : List Cell = front ++ (gap ++ (part ++ rest)) in
    let count : length front + length gap + length part - (length front + length gap) ≡ length part = omega arith in
    let source : drop (length front + length gap) all ≡ part ++ rest = drop-append-add front (gap ++ (part ++ rest)) (length gap) ∙ drop-append_seam gap (part ++ rest) in
    let behind : drop (length front + length part) all ≡ drop (length part) (gap ++ part) ++ rest =
    drop-append-add front (gap ++ (part ++ rest)) (length part)
    ∙ ap (λ l. drop (length part) l) (sym (append_assoc gap part rest))
    ∙ drop-append-le (length part) (gap ++ part) rest (omega (arith, length-append gap part)) in
    ap (λ n. take (length front) all ++ take n (drop (length front + length gap) all) ++ drop (length front + n) all) count
    ∙ ap (λ l. take (length front) all ++ take (length part) l ++ drop (length front + length part) all) source
    ∙ ap (λ l. l ++ take (length part) (part ++ rest) ++ drop (length front + length part) all) (take-append_seam front (gap ++ (part ++ rest)))
    ∙ ap (λ l. front ++ l ++ drop (length front + length part) all) (take-append_seam part rest)
    ∙ ap (λ l. front ++ part ++ l) behind
    ∙ append_assoc front part (drop (length part) (gap ++ part) ++ rest)

-- the first runs stand slid together up to a place, and the rest from another on
pub record Sliding (building : ℕ) (old : List Cell) (old_places : Slab ℕ) (cells : List Cell) (places : Slab ℕ) (from to end : ℕ) : Type 0 where
  pub written : List Segment
  pub gap : List Cell
  pub rest : List Segment
  pub last : List Cell
  pub front : List Cell
  pub cells_are : cells ≡ layout written ++ (gap ++ (layout rest ++ last))
  pub old_are : old ≡ front ++ last
  pub last_are : length last ≡ building
  pub to_is : to ≡ length (layout written)
  pub from_is : from ≡ to + length gap
  pub end_is : end ≡ from + length (layout rest)
  pub compact : to ≡ cells_of (live_runs written)
  pub runs_are : live_runs written ++ live_runs rest ≡ runs_in building old
  pub apart : AreApart (runs_in building old)
  pub places_are : (key : ℕ) → get places key ≡ option_or (place_of written key 0) (place_of rest key from)
  pub same_keys : slab_len places ≡ slab_len old_places
  pub same_capacity : places.capacity ≡ old_places.capacity

pub sliding-init : (building : ℕ) (cells : List Cell) (places : Slab ℕ) (end : ℕ) → IsLaid building cells places → end ≡ length cells - building → Sliding building cells places cells places 0 0 end
sliding-init building cells places end laid e =
    let read = runs_in-laid building cells places laid in
    let count = ap length laid.cells_are in
    let last_are = laid.last_are in
    record {
      written = [];
      gap = [];
      rest = laid.ended;
      last = laid.last;
      front = layout laid.ended;
      cells_are = laid.cells_are;
      old_are = laid.cells_are;
      last_are = laid.last_are;
      to_is = refl;
      from_is = refl;
      end_is = omega (arith, length-append (layout laid.ended) laid.last);
      compact = refl;
      runs_are = sym read;
      apart = subst AreApart (sym read) laid.apart;
      places_are = laid.places_are;
      same_keys = refl;
      same_capacity = refl;
    }

pub head-size : (segment : Segment) → (head segment).size ≡ length (own segment)
head-size (Live key cells) = refl
head-size (Dead cells) = refl

pub live-segment : (segment : Segment) (first : Cell) → first ≡ head segment → first.kind ≡ 1 → (run : List Cell) × (segment ≡ Live first.bits run) × (first.size ≡ length run)
live-segment (Live key run) first is kind = (run, ap (λ b. Live b run) (sym (ap (λ c. c.bits) is)), ap (λ c. c.size) is)
live-segment (Dead run) first is kind = absurd (let dead = ap (λ c. c.kind) is in omega arith)

pub dead-segment : (segment : Segment) (first : Cell) → first ≡ head segment → first.kind ≢ 1 → (run : List Cell) × (segment ≡ Dead run) × (first.size ≡ length run)
dead-segment (Live key run) first is kind = absurd (kind (ap (λ c. c.kind) is))
dead-segment (Dead run) first is kind = (run, refl, ap (λ c. c.size) is)

module _ {building : ℕ} {old : List Cell} {old_places : Slab ℕ} {cells : List Cell} {places : Slab ℕ} {from to end : ℕ} (s : Sliding building old old_places cells places from to end) where
  -- the run at the place
  pub record IsNext (first : Cell) : Type 0 where
    pub segment : Segment
    pub more : List Segment
    pub is : s.rest ≡ segment ∷ more
    pub first_is : first ≡ head segment
    pub within : from + first.size + 1 ≤ end

  pub length-sliding : length cells ≡ end + building
  length-sliding =
      let c = ap length s.cells_are in
      let l = s.last_are in
      let t = s.to_is in
      let f = s.from_is in
      let e = s.end_is in
      omega (arith, length-append (layout s.written) (s.gap ++ (layout s.rest ++ s.last)), length-append s.gap (layout s.rest ++ s.last), length-append (layout s.rest) s.last)

  first-rest : (rest : List Segment) → rest ≡ s.rest → from < end → (segment : Segment) × (more : List Segment) × (s.rest ≡ segment ∷ more)
  first-rest [] is l = absurd (let e = s.end_is in let none : length (layout s.rest) ≡ 0 = ap (λ r. length (layout r)) (sym is) in omega arith)
  first-rest (segment ∷ more) is l = (segment, more, sym is)

  pub next : (first : Cell) → from < end → first ≡ get_or cells from first → IsNext first
  next first l read =
      let r = first-rest s.rest refl l in
      let at : from ≡ length (layout s.written ++ s.gap) = let t = s.to_is in let f = s.from_is in omega (arith, length-append (layout s.written) s.gap) in
      let standing : cells ≡ (layout s.written ++ s.gap) ++ (head r.0 ∷ (own r.0 ++ layout r.1) ++ s.last) =
      s.cells_are
      ∙ sym (append_assoc (layout s.written) s.gap (layout s.rest ++ s.last))
      ∙ ap (λ l. (layout s.written ++ s.gap) ++ (layout l ++ s.last)) r.2 in
      let first_is : first ≡ head r.0 =
      read
      ∙ ap (λ c. get_or c from first) standing
      ∙ ap (λ n. get_or ((layout s.written ++ s.gap) ++ (head r.0 ∷ (own r.0 ++ layout r.1) ++ s.last)) n first) at
      ∙ get_or-append_seam (layout s.written ++ s.gap) (head r.0) ((own r.0 ++ layout r.1) ++ s.last) first in
      record {
        segment = r.0;
        more = r.1;
        is = r.2;
        first_is = first_is;
        within =
            let size = ap (λ c. c.size) first_is ∙ head-size r.0 in
            let count = ap (λ l. length (layout l)) r.2 in
            let e = s.end_is in
            omega (arith, length-append (own r.0) (layout r.1));
      }

  -- a dead run is passed over
  pub passed : (run : List Cell) (more : List Segment) → s.rest ≡ Dead run ∷ more → (after : ℕ) → after ≡ from + suc (length run) → Sliding building old old_places cells places after to end
  passed run more is after count = record {
    written = s.written;
    gap = s.gap ++ (head (Dead run) ∷ run);
    rest = more;
    last = s.last;
    front = s.front;
    cells_are =
        s.cells_are
        ∙ ap (λ l. layout s.written ++ (s.gap ++ (layout l ++ s.last))) is
        ∙ ap (λ l. layout s.written ++ (s.gap ++ (head (Dead run) ∷ l))) (append_assoc run (layout more) s.last)
        ∙ ap (λ l. layout s.written ++ l) (sym (append_assoc s.gap (head (Dead run) ∷ run) (layout more ++ s.last)));
    old_are = s.old_are;
    last_are = s.last_are;
    to_is = s.to_is;
    from_is = let f = s.from_is in omega (arith, length-append s.gap (head (Dead run) ∷ run));
    end_is = let e = s.end_is in let l = ap (λ l. length (layout l)) is in omega (arith, length-append run (layout more));
    compact = s.compact;
    runs_are = ap (λ l. live_runs s.written ++ live_runs l) (sym is) ∙ s.runs_are;
    apart = s.apart;
    places_are = λ key.
        s.places_are key
        ∙ ap (λ l. option_or (place_of s.written key 0) (place_of l key from)) is
        ∙ ap (λ n. option_or (place_of s.written key 0) (place_of more key n)) (sym count);
    same_keys = s.same_keys;
    same_capacity = s.same_capacity;
  }

  none_written : (key : ℕ) (run : List Cell) (more : List Segment) → s.rest ≡ Live key run ∷ more → find (live_runs s.written) key ≡ None
  none_written key run more is =
      (apart-rest (live_runs s.written) (live_runs more) key run (subst AreApart (sym s.runs_are ∙ ap (λ l. live_runs s.written ++ live_runs l) is) s.apart)).0

  pub has_its_place : (key : ℕ) (run : List Cell) (more : List Segment) → s.rest ≡ Live key run ∷ more → get places key ≡ Some from
  has_its_place key run more is =
      s.places_are key
      ∙ ap (λ l. option_or (place_of s.written key 0) (place_of l key from)) is
      ∙ ap (λ o. option_or o (place_of (Live key run ∷ more) key from)) (place-none s.written key 0 (none_written key run more is))
      ∙ (let own_place : place_of (Live key run ∷ more) key from ≡ Some from = elim (eqb_tells key key) [ inl e ↦ rw e.0 refl | inr e ↦ absurd (e.1 refl) ] in own_place)

  -- a live run is written behind those that were
  pub moved : (key : ℕ) (run : List Cell) (more : List Segment) → s.rest ≡ Live key run ∷ more → (new : List Cell) (new_places : Slab ℕ) (after further : ℕ) → after ≡ from + suc (length run) → further ≡ to + suc (length run) → new ≡ copy_within cells from after to → get new_places key ≡ Some to → ((other : ℕ) → other ≢ key → get new_places other ≡ get places other) → slab_len new_places ≡ slab_len places → new_places.capacity ≡ places.capacity → Sliding building old old_places new new_places after further end
  moved key run more is new new_places after further count written_count new_is own_place others keys capacity =
      let part : List Cell = head (Live key run) ∷ run in
      let over : List Cell = drop (length part) (s.gap ++ part) in
      let all : List Segment = s.written ++ Live key run ∷ [] in
      let t = s.to_is in
      let f = s.from_is in
      let standing : cells ≡ layout s.written ++ (s.gap ++ (part ++ (layout more ++ s.last))) =
      s.cells_are
      ∙ ap (λ l. layout s.written ++ (s.gap ++ (layout l ++ s.last))) is
      ∙ ap (λ l. layout s.written ++ (s.gap ++ (head (Live key run) ∷ l))) (append_assoc run (layout more) s.last) in
      let from_at : from ≡ length (layout s.written) + length s.gap = omega arith in
      let after_at : after ≡ length (layout s.written) + length s.gap + length part = omega arith in
      let layout_all : layout all ≡ layout s.written ++ part = layout-append s.written (Live key run ∷ []) ∙ ap (λ r. layout s.written ++ (head (Live key run) ∷ r)) (append-nil run) in
      let none = none_written key run more is in
      record {
        written = all;
        gap = over;
        rest = more;
        last = s.last;
        front = s.front;
        cells_are =
            new_is
            ∙ ap (λ c. copy_within c from after to) standing
            ∙ ap (λ n. copy_within (layout s.written ++ (s.gap ++ (part ++ (layout more ++ s.last)))) n after to) from_at
            ∙ ap (λ n. copy_within (layout s.written ++ (s.gap ++ (part ++ (layout more ++ s.last)))) (length (layout s.written) + length s.gap) n to) after_at
            ∙ ap (λ n. copy_within (layout s.written ++ (s.gap ++ (part ++ (layout more ++ s.last)))) (length (layout s.written) + length s.gap) (length (layout s.written) + length s.gap + length part) n) t
            ∙ copied (layout s.written) s.gap part (layout more ++ s.last)
            ∙ sym (append_assoc (layout s.written) part (over ++ (layout more ++ s.last)))
            ∙ ap (λ l. l ++ (over ++ (layout more ++ s.last))) (sym layout_all);
        old_are = s.old_are;
        last_are = s.last_are;
        to_is = let l = ap length layout_all in omega (arith, length-append (layout s.written) part);
        from_is = omega (arith, length-drop (length part) (s.gap ++ part), length-append s.gap part);
        end_is = let e = s.end_is in let l = ap (λ l. length (layout l)) is in omega (arith, length-append run (layout more));
        compact =
            let c = s.compact in
            let sum = ap cells_of (live_runs-append s.written (Live key run ∷ [])) ∙ cells_of-append (live_runs s.written) ((key, run) ∷ []) in
            omega arith;
        runs_are =
            ap (λ l. l ++ live_runs more) (live_runs-append s.written (Live key run ∷ []))
            ∙ append_assoc (live_runs s.written) ((key, run) ∷ []) (live_runs more)
            ∙ ap (λ l. live_runs s.written ++ live_runs l) (sym is)
            ∙ s.runs_are;
        apart = s.apart;
        places_are = λ other. elim (eqb_tells other key) [
          | inl e ↦
              subst (λ k. get new_places k ≡ option_or (place_of all k 0) (place_of more k after)) (sym e.1) (
              own_place
              ∙ ap Some t
              ∙ ap (λ o. option_or o (place_of more key after)) (sym (place-among s.written [] key run none))
              )
          | inr e ↦
              let later : place_of (Live key run ∷ more) other from ≡ place_of more other after =
              (let past : place_of (Live key run ∷ more) other from ≡ place_of more other (from + suc (length run)) = elim (eqb_tells key other) [ inl f ↦ absurd (e.1 (sym f.1)) | inr f ↦ rw f.0 refl ] in past)
              ∙ ap (λ n. place_of more other n) (sym count) in
              let earlier : place_of all other 0 ≡ place_of s.written other 0 =
              place_of-append s.written (Live key run ∷ []) other 0 (length (layout s.written)) (omega arith)
              ∙ ap (λ o. option_or (place_of s.written other 0) o) (place-none (Live key run ∷ []) other (length (layout s.written)) (find-one_other key other run e.1))
              ∙ option_or-none (place_of s.written other 0) in
              others other e.1
              ∙ s.places_are other
              ∙ ap (λ l. option_or (place_of s.written other 0) (place_of l other from)) is
              ∙ ap (λ o. option_or (place_of s.written other 0) o) later
              ∙ ap (λ o. option_or o (place_of more other after)) (sym earlier)
        ];
        same_keys = keys ∙ s.same_keys;
        same_capacity = capacity ∙ s.same_capacity;
      }

  none-rest : (rest : List Segment) → rest ≡ s.rest → end ≤ from → s.rest ≡ []
  none-rest [] is l = sym is
  none-rest (segment ∷ more) is l = absurd (let e = s.end_is in let some = ap (λ r. length (layout r)) is in omega arith)

  -- the run that is being built comes last
  pub slid : end ≤ from → (whole : ℕ) → whole ≡ length cells → (new : List Cell) → new ≡ take (to + building) (copy_within cells end whole to) → Slides building old old_places new places
  slid l whole whole_is new new_is =
      let none = none-rest s.rest refl l in
      let t = s.to_is in
      let f = s.from_is in
      let e = s.end_is in
      let none_left = ap (λ r. length (layout r)) none in
      let over : List Cell = drop (length s.last) (s.gap ++ s.last) in
      let standing : cells ≡ layout s.written ++ (s.gap ++ (s.last ++ [])) =
      s.cells_are
      ∙ ap (λ r. layout s.written ++ (s.gap ++ (layout r ++ s.last))) none
      ∙ ap (λ r. layout s.written ++ (s.gap ++ r)) (sym (append-nil s.last)) in
      let end_at : end ≡ length (layout s.written) + length s.gap = omega arith in
      let whole_at : whole ≡ length (layout s.written) + length s.gap + length s.last = let c = length-sliding in let b = s.last_are in omega arith in
      let slid_cells : copy_within cells end whole to ≡ layout s.written ++ (s.last ++ (over ++ [])) =
      ap (λ c. copy_within c end whole to) standing
      ∙ ap (λ n. copy_within (layout s.written ++ (s.gap ++ (s.last ++ []))) n whole to) end_at
      ∙ ap (λ n. copy_within (layout s.written ++ (s.gap ++ (s.last ++ []))) (length (layout s.written) + length s.gap) n to) whole_at
      ∙ ap (λ n. copy_within (layout s.written ++ (s.gap ++ (s.last ++ []))) (length (layout s.written) + length s.gap) (length (layout s.written) + length s.gap + length s.last) n) t
      ∙ copied (layout s.written) s.gap s.last [] in
      let cut : to + building ≡ length (layout s.written ++ s.last) = let b = s.last_are in omega (arith, length-append (layout s.written) s.last) in
      let new_are : new ≡ layout s.written ++ s.last =
      new_is
      ∙ ap (λ c. take (to + building) c) (slid_cells ∙ sym (append_assoc (layout s.written) s.last (over ++ [])))
      ∙ ap (λ n. take n ((layout s.written ++ s.last) ++ (over ++ []))) cut
      ∙ take-append_seam (layout s.written ++ s.last) (over ++ []) in
      let runs : live_runs s.written ≡ runs_in building old = sym (append-nil (live_runs s.written)) ∙ ap (λ r. live_runs s.written ++ live_runs r) (sym none) ∙ s.runs_are in
      let laid : IsLaid building new places = record {
        ended = s.written;
        last = s.last;
        cells_are = new_are;
        last_are = s.last_are;
        places_are = λ key. s.places_are key ∙ ap (λ r. option_or (place_of s.written key 0) (place_of r key from)) none ∙ option_or-none (place_of s.written key 0);
        apart = subst AreApart (sym runs) s.apart;
      } in
      record {
        laid = laid;
        same_runs = runs_in-laid building new places laid ∙ runs;
        same_building = ap (built_in building) new_are ∙ built-last building (layout s.written) s.front s.last s.last_are ∙ ap (built_in building) (sym s.old_are);
        compact =
            let c = s.compact ∙ ap cells_of runs in
            let n = ap length new_are in
            omega arith;
        same_keys = s.same_keys;
        same_capacity = s.same_capacity;
      }
