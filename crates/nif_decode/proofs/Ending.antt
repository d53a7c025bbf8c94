-- The faults of a taker as faults of values.
use Rattle.std.proofs.Common.{◌≡◌, ◌≢◌, ℕ, zero, suc, ◌+◌, ◌^◌, ◌<◌, ◌≤◌, Bool, true, false, if◌then◌else◌, ◌&&◌, List, [], ◌∷◌, length, take, Option, Some, None, refl, sym, ap, ◌∙◌, subst, arith, ltb, add-one, ltb-true, ltb-false, lt-ltb, le-ltb, cond, not}
use Rattle.std.specs.List.{prefix_len}
use Rattle.std.specs.Prelude.{IfSome, position, option_and_then, nat_lt, ◌==◌}
use Rattle.std.specs.Option.{option_map, option_map_or}
use Rattle.nif_stream.specs.declared.takers.Taker.{Taker}
use Rattle.nif_stream.specs.declared.takers.TakeFault.{TakeFault}
use Rattle.nif_stream.specs.declared.takers.TakeFault.TheVariants as take
use Rattle.nif_stream.specs.Taking as taking
use Rattle.nif_stream.specs.Taking.{source_of, place_of, left_of, ahead_of, IsSound, Takes, Misses, need_fault, line_end, asked_at}
use Rattle.nif_layout.specs.Fault as plain
use Rattle.nif_layout.specs.Fault.{Fault, Point}
use Rattle.nif_layout.specs.LeafFault.{shortage, newline, line_needs, line_fault, or_else}
use Rattle.nif_base.specs.Outside.{Rose}
use Rattle.nif_cells.specs.Building.{Building}
use Rattle.nif_scope.specs.declared.entries.Entry.{Entry}
use Rattle.nif_decode.specs.Faults.{take_cause, IsGone}
use Rattle.nif_decode.specs.Answers.{Ends, Stops, IsReadyTaker, line_ends}
use Rattle.nif_decode.specs.PieceLaws.{need_no_line, plain_of, shortage_plain}

abbrev found_by : ℕ → ℕ → Option ℕ
found_by k n = if nat_lt k n then Some k else None

found_more : (k n : ℕ) → found_by (1 + k) (suc n) ≡ option_map (λ j. suc j) (found_by k n)
found_more k n = by (nat_lt k n) refl
  where
    by : (t : Bool) → nat_lt k n ≡ t → found_by (1 + k) (suc n) ≡ option_map (λ j. suc j) (if t then Some k else None)
    by true e =
        let less : k < n = ltb-true k n e in
        let more : 1 + k < suc n = omega arith in
        let test : ltb (1 + k) (suc n) ≡ true = lt-ltb (1 + k) (suc n) more in
        let one : 1 + k ≡ suc k = omega arith in
        ap (λ b. if b then Some (1 + k) else None) test ∙ ap Some one
    by false e =
        let less : n ≤ k = ltb-false k n e in
        let more : suc n ≤ 1 + k = omega arith in
        let test : ltb (1 + k) (suc n) ≡ false = le-ltb (1 + k) (suc n) more in
        ap (λ b. if b then Some (1 + k) else None) test

pub newline_position : (most : ℕ) (bytes : List ℕ) → position (λ c. c == 10) (take most bytes) ≡ newline most bytes
unfolding newline
newline_position zero bytes = refl
newline_position (suc most) [] = refl
newline_position (suc most) (b ∷ bytes) = by (b == 10) (newline_position most bytes)
  where
    by : (t : Bool) → position (λ c. c == 10) (take most bytes) ≡ newline most bytes
        → found_by (cond (not t) (1 + prefix_len (λ x. not (x == 10)) (take most bytes)) 0) (suc (length (take most bytes)))
        ≡ (if t then Some 0 else option_map (λ k. suc k) (newline most bytes))
    by true ih =
        let pos : 0 < suc (length (take most bytes)) = omega arith in
        let test : ltb 0 (suc (length (take most bytes))) ≡ true = lt-ltb 0 (suc (length (take most bytes))) pos in
        ap (λ b. if b then Some 0 else None) test
    by false ih =
        found_more (prefix_len (λ x. not (x == 10)) (take most bytes)) (length (take most bytes)) ∙ ap (λ o. option_map (λ k. suc k) o) ih

line_by : (p : Point) (o : Option ℕ) (s : Option TakeFault)
    → shortage 256 p ≡ option_and_then (plain_of p.place) s
    → ((k : ℕ) → o ≡ Some k → shortage (suc k) p ≡ option_and_then (plain_of p.place) (need_fault p.place (k + 1) p.left))
    → (fs : s ≢ Some take.ReadFault)
    → or_else (shortage (line_needs o) p) (line_fault o p.place)
    ≡ option_and_then (plain_of p.place) (option_map_or (λ end. need_fault p.place (end + 1) p.left) o (option_map_or (λ fault. Some fault) s (Some take.LineTooLong)))
line_by p None None e f fs = ap (λ x. or_else x (Some (plain.LineTooLong p.place))) e
line_by p None (Some take.Ended) e f fs = ap (λ x. or_else x (Some (plain.LineTooLong p.place))) e
line_by p None (Some take.LineTooLong) e f fs = ap (λ x. or_else x (Some (plain.LineTooLong p.place))) e
line_by p None (Some take.TooLong) e f fs = ap (λ x. or_else x (Some (plain.LineTooLong p.place))) e
line_by p None (Some take.ReadFault) e f fs = absurd (fs refl)
line_by p (Some k) s e f fs = behind_none (shortage (suc k) p) ∙ f k refl
  where
    behind_none : (o : Option Fault) → or_else o None ≡ o
    behind_none None = refl
    behind_none (Some x) = refl

need_no_read : (place need : ℕ) (bytes : List ℕ) → need_fault place need bytes ≢ Some take.ReadFault
unfolding need_fault
need_no_read place need bytes = by (nat_lt (2 ^ 26) (place + need) && nat_lt (2 ^ 26) (place + length bytes)) (nat_lt (length bytes) need)
  where
    by : (a b : Bool) → (if a then Some take.TooLong else if b then Some take.Ended else None) ≢ Some take.ReadFault
    by true b e = absurd (cc)
    by false true e = absurd (cc)
    by false false e = absurd (cc)

pub line_plain : (p : Point) → line_ends p ≡ option_and_then (plain_of p.place) (taking.line_fault p.place p.left)
unfolding taking.line_fault
line_plain p =
    let P : Option ℕ → Type 0 = λ o. line_ends p ≡ option_and_then (plain_of p.place) (option_map_or (λ end. need_fault p.place (end + 1) p.left) o (option_map_or (λ fault. Some fault) (need_fault p.place 256 p.left) (Some take.LineTooLong))) in
    subst P (sym (newline_position 256 p.left))
    (line_by p (newline 256 p.left) (need_fault p.place 256 p.left) (shortage_plain 256 p)
    (λ k e. shortage_plain (suc k) p ∙ ap (λ n. option_and_then (plain_of p.place) (need_fault p.place n p.left)) (sym (add-one k)))
    (need_no_read p.place 256 p.left))

told_both : (o : Option (List ℕ)) (P Q R : List ℕ → Type 0) → ((bytes : List ℕ) → P bytes → Q bytes → R bytes) → IfSome o P → IfSome o Q → IfSome o R
told_both None P Q R f p q = tt
told_both (Some bytes) P Q R f p q = f bytes p q

gone_all : (total : ℕ) (at : ℕ) (rest : Option (List ℕ)) → IsGone total (plain.Ended at) rest
gone_all total at None = tt
gone_all total at (Some bytes) = omega arith

gone_long : (place asked : ℕ) (bytes : List ℕ) (rest : Option (List ℕ)) → place + asked ≤ 2 ^ 26 + 1 → IfSome rest (λ r. length bytes ≤ asked + 4096 + length r)
    → IsGone (place + length bytes) plain.TooLong rest
gone_long place asked bytes None h t = tt
gone_long place asked bytes (Some r) h t = omega (arith, t)

gone_line : (place asked : ℕ) (bytes : List ℕ) (rest : Option (List ℕ)) → asked ≤ 256 → IfSome rest (λ r. length bytes ≤ asked + 4096 + length r)
    → IsGone (place + length bytes) (plain.LineTooLong place) rest
gone_line place asked bytes None h t = tt
gone_line place asked bytes (Some r) h t = omega (arith, t)

-- A call of the taker that did not succeed.
pub ends_from : {S : Type 0} (left : S → Option (List ℕ)) (still : S → S → Type 0) (faults : S → ℕ) (old new : Taker S) (fault : TakeFault)
    (expected : List ℕ → Option TakeFault) (asked : ℕ) (G : Point → Option Fault) → IsReadyTaker old → place_of old + asked ≤ 2 ^ 26 + 1
    → ((p : Point) → p.place ≡ place_of old → G p ≡ option_and_then (plain_of p.place) (expected p.left))
    → ((bytes : List ℕ) → expected bytes ≡ Some take.LineTooLong → asked ≤ 256)
    → Misses left still faults old expected asked new fault → Ends left still faults G old new (take_cause (place_of old) fault)
ends_from {S = S} left still faults old new fault expected asked G ready room same short m = record {
  went = record { same_reference = m.same_reference; keeps = m.keeps; later = m.later };
  stops = λ n b t. by n b t fault (m.rose ready.sound) (m.told ready.sound);
}
  where
    by : (n : ℕ) (b : Option Building) (t : List Entry) (f : TakeFault)
        → (f ≡ take.ReadFault → Rose (faults (source_of old)) (faults (source_of new)))
        → (f ≢ take.ReadFault → IfSome (left_of left old) (λ bytes. expected bytes ≡ Some f))
        → Stops left faults (λ p w. G p ≡ Some w) (record { taker = old; nodes = n; building = b; told = t }) new (take_cause (place_of old) f)
    by n b t take.ReadFault r h = r refl
    by n b t take.Ended r h =
        told_both (left_of left old) _ _ _ (λ bytes e q. record {
          fails = same (record { nodes = n; place = place_of old; left = bytes }) refl ∙ ap (λ o. option_and_then (plain_of (place_of old)) o) e;
          gone = gone_all (place_of old + length bytes) (place_of old) (left (source_of new));
        }) (h (λ e. absurd (cc))) (m.taken ready.sound)
    by n b t take.TooLong r h =
        told_both (left_of left old) _ _ _ (λ bytes e q. record {
          fails = same (record { nodes = n; place = place_of old; left = bytes }) refl ∙ ap (λ o. option_and_then (plain_of (place_of old)) o) e;
          gone = gone_long (place_of old) asked bytes (left (source_of new)) room q;
        }) (h (λ e. absurd (cc))) (m.taken ready.sound)
    by n b t take.LineTooLong r h =
        told_both (left_of left old) _ _ _ (λ bytes e q. record {
          fails = same (record { nodes = n; place = place_of old; left = bytes }) refl ∙ ap (λ o. option_and_then (plain_of (place_of old)) o) e;
          gone = gone_line (place_of old) asked bytes (left (source_of new)) (short bytes e) q;
        }) (h (λ e. absurd (cc))) (m.taken ready.sound)

asked_room : (place need : ℕ) → place ≤ 2 ^ 26 → place + asked_at place need ≤ 2 ^ 26 + 1
asked_room place need h = omega arith

pub take_ends : {S : Type 0} (left : S → Option (List ℕ)) (still : S → S → Type 0) (faults : S → ℕ) (old new : Taker S) (fault : TakeFault) (need : ℕ) → IsReadyTaker old
    → Misses left still faults old (need_fault (place_of old) need) (asked_at (place_of old) need) new fault
    → Ends left still faults (shortage need) old new (take_cause (place_of old) fault)
take_ends left still faults old new fault need ready m =
    ends_from left still faults old new fault (need_fault (place_of old) need) (asked_at (place_of old) need) (shortage need) ready (asked_room (place_of old) need ready.within)
    (λ p e. shortage_plain need p ∙ ap (λ k. option_and_then (plain_of p.place) (need_fault k need p.left)) e)
    (λ bytes e. absurd (need_no_line (place_of old) need bytes e)) m

pub line_ends_from : {S : Type 0} (left : S → Option (List ℕ)) (still : S → S → Type 0) (faults : S → ℕ) (old new : Taker S) (fault : TakeFault) → IsReadyTaker old
    → Misses left still faults old (taking.line_fault (place_of old)) (asked_at (place_of old) 256) new fault
    → Ends left still faults line_ends old new (take_cause (place_of old) fault)
line_ends_from left still faults old new fault ready m =
    ends_from left still faults old new fault (taking.line_fault (place_of old)) (asked_at (place_of old) 256) line_ends ready (asked_room (place_of old) 256 ready.within)
    (λ p e. line_plain p ∙ ap (λ k. option_and_then (plain_of p.place) (taking.line_fault k p.left)) e)
    (λ bytes e. omega arith) m
