-- Laws of bytes that are needed piece by piece: a piece that is not given is a fault of the whole.
use Rattle.std.proofs.Common.{◌≡◌, ◌≢◌, ℕ, ◌+◌, ◌^◌, ◌<◌, ◌≤◌, Bool, true, false, if◌then◌else◌, ◌&&◌, List, length, Option, Some, None, refl, sym, ap, ◌∙◌, subst, arith, ltb, ltb-true, lt-ltb, ◌++◌, length-append}
use Rattle.std.specs.Prelude.{IfSome, option_and_then, nat_lt}
use Rattle.nif_stream.specs.declared.takers.Taker.{Taker}
use Rattle.nif_stream.specs.declared.takers.TakeFault.{TakeFault}
use Rattle.nif_stream.specs.Taking.{source_of, place_of, left_of, Takes, Misses, need_fault, asked_at}
use Rattle.nif_layout.specs.Fault.{Fault, Point}
use Rattle.nif_layout.specs.LeafFault.{shortage}
use Rattle.nif_base.specs.Outside.{Rose, prepended}
use Rattle.nif_cells.specs.Building.{Building}
use Rattle.nif_scope.specs.declared.entries.Entry.{Entry}
use Rattle.nif_decode.specs.Faults.{take_cause, IsGone}
use Rattle.nif_decode.specs.Answers.{Ends, Stops, FailsThere}
use Rattle.nif_stream.specs.TakerLaws.{need_short, need_long, keeps_joined}
use Rattle.nif_stream.specs.declared.takers.TakeFault.TheVariants as take
use Rattle.nif_layout.specs.Fault as plain

-- what a fault of the taker says of a value at a place
abbrev pub plain_of : ℕ → TakeFault → Option Fault
plain_of place take.Ended = Some (plain.Ended place)
plain_of place take.LineTooLong = Some (plain.LineTooLong place)
plain_of place take.TooLong = Some plain.TooLong
plain_of place take.ReadFault = None

pub tests_plain : (place : ℕ) (a b : Bool)
    → (if a then Some plain.TooLong else if b then Some (plain.Ended place) else None)
    ≡ option_and_then (plain_of place) (if a then Some take.TooLong else if b then Some take.Ended else None)
tests_plain place true b = refl
tests_plain place false true = refl
tests_plain place false false = refl

pub shortage_plain : (need : ℕ) (p : Point)
    → shortage need p ≡ option_and_then (plain_of p.place) (need_fault p.place need p.left)
unfolding need_fault
shortage_plain need p = tests_plain p.place (nat_lt (2 ^ 26) (p.place + need)
    && nat_lt (2 ^ 26) (p.place + length p.left)) (nat_lt (length p.left) need)

pub need_no_line : (place need : ℕ) (bytes : List ℕ) → need_fault place need bytes ≢ Some take.LineTooLong
unfolding need_fault
need_no_line place need bytes =
    by (nat_lt (2 ^ 26) (place + need) && nat_lt (2 ^ 26) (place + length bytes)) (nat_lt (length bytes) need)
  where
    by : (a b : Bool) → (if a then Some take.TooLong else if b then Some take.Ended else None) ≢ Some take.LineTooLong
    by true b e = absurd (cc)
    by false true e = absurd (cc)
    by false false e = absurd (cc)

pub need_ended : (place need : ℕ) (bytes : List ℕ) → need_fault place need bytes ≡ Some take.Ended
    → 2 ^ 26 < place + need → 2 ^ 26 < place + length bytes → ⊥
unfolding need_fault
need_ended place need bytes e a b =
    let ta : ltb (2 ^ 26) (place + need) ≡ true = lt-ltb (2 ^ 26) (place + need) a in
    let tb : ltb (2 ^ 26) (place + length bytes) ≡ true = lt-ltb (2 ^ 26) (place + length bytes) b in
    by (ltb (2 ^ 26) (place + need)) (ltb (2 ^ 26) (place + length bytes)) ta tb e
  where
    by : (x y : Bool) → x ≡ true → y ≡ true → (if x && y then Some take.TooLong else if nat_lt (length bytes) need
        then Some take.Ended else None) ≡ Some take.Ended → ⊥
    by true true p q h = absurd (cc)
    by true false p q h = absurd (cc)
    by false y p q h = absurd (cc)

pub need_is_long : (place need : ℕ) (bytes : List ℕ) → 2 ^ 26 < place + need → 2 ^ 26 < place + length bytes
    → need_fault place need bytes ≡ Some take.TooLong
unfolding need_fault
need_is_long place need bytes a b =
    let ta : ltb (2 ^ 26) (place + need) ≡ true = lt-ltb (2 ^ 26) (place + need) a in
    let tb : ltb (2 ^ 26) (place + length bytes) ≡ true = lt-ltb (2 ^ 26) (place + length bytes) b in
    rw (ta, tb) refl

pub need_is_short : (place need : ℕ) (bytes : List ℕ) → length bytes < need
    → (2 ^ 26 < place + need → 2 ^ 26 < place + length bytes → ⊥) → need_fault place need bytes ≡ Some take.Ended
unfolding need_fault
need_is_short place need bytes less both =
    by (ltb (2 ^ 26) (place + need)) (ltb (2 ^ 26) (place + length bytes)) refl refl
  where
    short : ltb (length bytes) need ≡ true
    short = lt-ltb (length bytes) need less

    by : (x y : Bool) → ltb (2 ^ 26) (place + need) ≡ x → ltb (2 ^ 26) (place + length bytes) ≡ y
        → (if x && y then Some take.TooLong else if nat_lt (length bytes) need then Some take.Ended else None)
        ≡ Some take.Ended
    by true true p q = absurd (both (ltb-true (2 ^ 26) (place + need) p) (ltb-true (2 ^ 26) (place + length bytes) q))
    by true false p q = ap (λ b. if b then Some take.Ended else None) short
    by false y p q = ap (λ b. if b then Some take.Ended else None) short

-- what a piece of a run lacks, the run lacks
pub need_whole : (place n count : ℕ) (x rest : List ℕ) (fault : TakeFault) → length x + n ≤ count
    → need_fault (place + length x) n rest ≡ Some fault → fault ≢ take.LineTooLong → fault ≢ take.ReadFault
    → need_fault place count (x ++ rest) ≡ Some fault
need_whole place n count x rest take.Ended fits e l r =
    let len : length (x ++ rest) ≡ length x + length rest = length-append x rest in
    let less : length rest < n = need_short (place + length x) n rest e in
    let both = need_ended (place + length x) n rest e in
    need_is_short place count (x ++ rest) (omega arith)
    (λ a b. both (omega (arith, less, len, b)) (omega (arith, len, b)))
need_whole place n count x rest take.TooLong fits e l r =
    let len : length (x ++ rest) ≡ length x + length rest = length-append x rest in
    let two = need_long (place + length x) n rest e in
    let a : 2 ^ 26 < place + length x + n = two.0 in
    let b : 2 ^ 26 < place + length x + length rest = two.1 in
    need_is_long place count (x ++ rest) (omega arith) (omega arith)
need_whole place n count x rest take.LineTooLong fits e l r = absurd (l refl)
need_whole place n count x rest take.ReadFault fits e l r = absurd (r refl)

pub gone_all : (total at : ℕ) (rest : Option (List ℕ)) → IsGone total (plain.Ended at) rest
gone_all total at None = tt
gone_all total at (Some bytes) = omega arith

pub gone_long : (place asked : ℕ) (bytes : List ℕ) (total : ℕ) (rest : Option (List ℕ)) → total ≡ place + length bytes
    → place + asked ≤ 2 ^ 26 + 1 → IfSome rest (λ r. length bytes ≤ asked + 4096 + length r)
    → IsGone total plain.TooLong rest
gone_long place asked bytes total None is h t = tt
gone_long place asked bytes total (Some r) is h t = omega (arith, t)

-- A piece of a run was not given.
pub piece_ends : {S : Type 0} (left : S → Option (List ℕ)) (still : S → S → Type 0) (faults : S → ℕ) (a b c : Taker S)
    (x : List ℕ) (n count : ℕ) (fault : TakeFault)
    → Takes left still faults a x b → length x + n ≤ count
    → Misses left still faults b (need_fault (place_of b) n) (asked_at (place_of b) n) c fault
    → Ends left still faults (shortage count) a c (take_cause (place_of a) fault)
piece_ends {S = S} left still faults a b c x n count fault t fits m = record {
  went = record {
    same_reference = m.same_reference
        ∙ t.same_reference;
    keeps = keeps_joined still a b c t.keeps m.keeps;
    later = omega (arith, t.later, m.later);
  };
  stops = λ k d e. by k d e fault (m.rose t.sound) (m.told t.sound);
}
  where
    room : place_of b + asked_at (place_of b) n ≤ 2 ^ 26 + 1
    room = omega (arith, t.within)

    whole : (k : ℕ) (rest : List ℕ) (f : TakeFault) (w : Fault) → plain_of (place_of a) f ≡ Some w
        → f ≢ take.LineTooLong → f ≢ take.ReadFault → need_fault (place_of b) n rest ≡ Some f
        → shortage count (record { nodes = k; place = place_of a; left = x ++ rest }) ≡ Some w
    whole k rest f w is l r e =
        shortage_plain count (record { nodes = k; place = place_of a; left = x ++ rest })
        ∙ ap (λ o. option_and_then (plain_of (place_of a)) o)
        (need_whole (place_of a) n count x rest f fits (ap (λ p. need_fault p n rest) (sym t.place) ∙ e) l r)
        ∙ is

    told : (k : ℕ) (f : TakeFault) (w : Fault) (q : Option (List ℕ)) → plain_of (place_of a) f ≡ Some w
        → f ≢ take.LineTooLong → f ≢ take.ReadFault
        → ((bytes : List ℕ) → IfSome (left (source_of c))
        (λ r. length bytes ≤ asked_at (place_of b) n + 4096 + length r)
        → IsGone (place_of a + length (x ++ bytes)) w (left (source_of c)))
        → IfSome q (λ bytes. need_fault (place_of b) n bytes ≡ Some f)
        → IfSome q (λ bytes. IfSome (left (source_of c))
        (λ r. length bytes ≤ asked_at (place_of b) n + 4096 + length r))
        → IfSome (prepended x q) (λ bytes. FailsThere (λ p v. shortage count p ≡ Some v) w (left (source_of c))
        (record { nodes = k; place = place_of a; left = bytes }))
    told k f w None is l r g e h = tt
    told k f w (Some rest) is l r g e h = record { fails = whole k rest f w is l r e; gone = g rest h }

    at_old : (k : ℕ) (w : Fault)
        → IfSome (prepended x (left_of left b)) (λ bytes. FailsThere (λ p v. shortage count p ≡ Some v) w
        (left (source_of c)) (record { nodes = k; place = place_of a; left = bytes }))
        → IfSome (left_of left a) (λ bytes. FailsThere (λ p v. shortage count p ≡ Some v) w (left (source_of c))
        (record { nodes = k; place = place_of a; left = bytes }))
    at_old k w h = subst (λ o. IfSome o (λ bytes. FailsThere (λ p v. shortage count p ≡ Some v) w (left (source_of c))
        (record { nodes = k; place = place_of a; left = bytes }))) (sym t.given) h

    no_line : (q : Option (List ℕ)) (w : Fault) (k : ℕ)
        → IfSome q (λ bytes. need_fault (place_of b) n bytes ≡ Some take.LineTooLong)
        → IfSome (prepended x q) (λ bytes. FailsThere (λ p v. shortage count p ≡ Some v) w (left (source_of c))
        (record { nodes = k; place = place_of a; left = bytes }))
    no_line None w k e = tt
    no_line (Some rest) w k e = absurd (need_no_line (place_of b) n rest e)

    by : (k : ℕ) (d : Option Building) (e : List Entry) (f : TakeFault)
        → (f ≡ take.ReadFault → Rose (faults (source_of b)) (faults (source_of c)))
        → (f ≢ take.ReadFault → IfSome (left_of left b) (λ bytes. need_fault (place_of b) n bytes ≡ Some f))
        → Stops left faults (λ p w. shortage count p ≡ Some w)
        (record { taker = a; nodes = k; building = d; told = e }) c (take_cause (place_of a) f)
    by k d e take.ReadFault r h = let z : Rose (faults (source_of b)) (faults (source_of c)) = r refl in omega
        (arith, z, t.later)
    by k d e take.Ended r h =
        at_old k (plain.Ended (place_of a)) (told k take.Ended (plain.Ended (place_of a)) (left_of left b) refl
        (λ e. absurd (cc)) (λ e. absurd (cc))
        (λ bytes g. gone_all (place_of a + length (x ++ bytes)) (place_of a) (left (source_of c)))
        (h (λ e. absurd (cc))) (m.taken t.sound))
    by k d e take.TooLong r h =
        at_old k plain.TooLong (told k take.TooLong plain.TooLong (left_of left b) refl (λ e. absurd (cc))
        (λ e. absurd (cc))
        (λ bytes g. gone_long (place_of b) (asked_at (place_of b) n) bytes (place_of a + length (x ++ bytes))
        (left (source_of c)) (omega (arith, length-append x bytes, t.place)) room g)
        (h (λ e. absurd (cc))) (m.taken t.sound))
    by k d e take.LineTooLong r h = at_old k (plain.LineTooLong (place_of a))
        (no_line (left_of left b) (plain.LineTooLong (place_of a)) k (h (λ e. absurd (cc))))
