-- How calls that put bytes through one putter join.
use Rattle.std.proofs.Common.{◌≡◌, ℕ, List, [], ◌++◌, length, length-append, take, drop, ap, sym, ◌∙◌, append_assoc, append-nil, refl, subst, arith}
use Rattle.std.proofs.lemmas.List.{take_at, take-append-drop}
use Rattle.std.proofs.Math.Seq.{take-append_seam, take-append-add}
use Rattle.nif_stream.specs.declared.putters.Putter.{Putter}
use Rattle.nif_stream.specs.Putting.{HasTaken, HasPut, Adds, AddsPart, Puts, Fails}

-- a beginning, from what it is joined of
pub taken_first : {K : Type 0} (grew : K → List ℕ → K → Type 0) (a b : K) (x y all : List ℕ) → grew a x b
    → x ++ y ≡ all → HasTaken grew a b all
unfolding HasTaken
taken_first grew a b x y all g e =
    (length x, subst (λ z. grew a z b) (sym (ap (take (length x)) (sym e) ∙ take_at x y (length x) refl)) g)

-- what is the first of some bytes is the first of more
pub taken_more : {K : Type 0} (grew : K → List ℕ → K → Type 0) (a b : K) (x y all : List ℕ) → HasTaken grew a b x
    → x ++ y ≡ all → HasTaken grew a b all
unfolding HasTaken
taken_more grew a b x y all p e =
    taken_first grew a b (take p.0 x) (drop p.0 x ++ y) all p.1
    (sym (append_assoc (take p.0 x) (drop p.0 x) y) ∙ ap (λ l. l ++ y) (take-append-drop p.0 x) ∙ e)

-- no byte was put
pub adds_none : {K : Type 0} (grew : K → List ℕ → K → Type 0) (a : Putter K) (z : List ℕ) → z ≡ [] → Adds grew a z a
unfolding Adds
adds_none grew a z e = λ start all h. subst (λ l. HasPut grew start a l) (sym (ap (λ l. all ++ l) e ∙ append-nil all)) h

-- bytes were put, and then more
pub adds_joined : {K : Type 0} (grew : K → List ℕ → K → Type 0) (a b c : Putter K) (x y z : List ℕ) → Adds grew a x b
    → Adds grew b y c → x ++ y ≡ z → Adds grew a z c
unfolding Adds
adds_joined grew a b c x y z p q e = λ start all h. subst (λ l. HasPut grew start c l)
    (append_assoc all x y ∙ ap (λ l. all ++ l) e) (q start (all ++ x) (p start all h))

-- the same, where the whole is not named
pub adds_append : {K : Type 0} (grew : K → List ℕ → K → Type 0) (a b c : Putter K) (x y : List ℕ) → Adds grew a x b
    → Adds grew b y c → Adds grew a (x ++ y) c
adds_append grew a b c x y p q = adds_joined grew a b c x y (x ++ y) p q refl

-- bytes were put, and then a write failed
pub adds_part : {K : Type 0} (grew : K → List ℕ → K → Type 0) (a b c : Putter K) (x y z : List ℕ) → Adds grew a x b
    → AddsPart grew b y c → x ++ y ≡ z → AddsPart grew a z c
unfolding Adds AddsPart
adds_part grew a b c x y z p q e = λ start all h. subst (λ l. HasTaken grew start c.sink.now l)
    (append_assoc all x y ∙ ap (λ l. all ++ l) e) (q start (all ++ x) (p start all h))

-- the same, where the whole is not named
pub adds_part_append : {K : Type 0} (grew : K → List ℕ → K → Type 0) (a b c : Putter K) (x y : List ℕ)
    → Adds grew a x b → AddsPart grew b y c → AddsPart grew a (x ++ y) c
adds_part_append grew a b c x y p q = adds_part grew a b c x y (x ++ y) p q refl

-- a write failed, and more was to be put
pub part_before : {K : Type 0} (grew : K → List ℕ → K → Type 0) (a b : Putter K) (x y z : List ℕ)
    → AddsPart grew a x b → x ++ y ≡ z → AddsPart grew a z b
unfolding AddsPart
part_before grew a b x y z p e = λ start all h. taken_more grew start b.sink.now (all ++ x) y (all ++ z) (p start all h)
    (append_assoc all x y ∙ ap (λ l. all ++ l) e)

-- the same, where what was to be put is not named
pub part_more : {K : Type 0} (grew : K → List ℕ → K → Type 0) (a b : Putter K) (x z : List ℕ) → AddsPart grew a x b
    → take (length x) z ≡ x → AddsPart grew a z b
part_more grew a b x z p e = part_before grew a b x (drop (length x) z) z p
    (ap (λ l. l ++ drop (length x) z) (sym e) ∙ take-append-drop (length x) z)

-- what was put since a start
pub put_more : {K : Type 0} (grew : K → List ℕ → K → Type 0) (start : K) (a b : Putter K) (all x z : List ℕ)
    → HasPut grew start a all → Adds grew a x b → all ++ x ≡ z → HasPut grew start b z
unfolding Adds
put_more grew start a b all x z h p e = subst (λ l. HasPut grew start b l) e (p start all h)

-- what the sink took since a start, where a write failed
pub taken_part : {K : Type 0} (grew : K → List ℕ → K → Type 0) (start : K) (a b : Putter K) (all x z : List ℕ)
    → HasPut grew start a all → AddsPart grew a x b → all ++ x ≡ z → HasTaken grew start b.sink.now z
unfolding AddsPart
taken_part grew start a b all x z h p e = subst (λ l. HasTaken grew start b.sink.now l) e (p start all h)

pub ruleset puts = (adds_none, adds_joined, adds_append, adds_part, adds_part_append, part_more, put_more, taken_part, append_assoc, append-nil, take-append_seam, take-append-add, length-append)

-- calls put bytes, and then more
pub puts_more : {K : Type 0} (grew : K → List ℕ → K → Type 0) (faults : K → ℕ) (a b c : Putter K) (x y z : List ℕ)
    → Puts grew faults a x b → Puts grew faults b y c → x ++ y ≡ z → Puts grew faults a z c
puts_more grew faults a b c x y z p q e = record {
  same_reference = q.same_reference ∙ p.same_reference;
  later = omega (arith, p.later, q.later);
  sound = q.sound;
  adds = adds_joined grew a b c x y z p.adds q.adds e;
}

-- calls put bytes, and then one failed before all was put
pub fails_more : {K : Type 0} (grew : K → List ℕ → K → Type 0) (faults : K → ℕ) (a b c : Putter K) (x y w z : List ℕ)
    → Puts grew faults a x b → Fails grew faults b y c → (x ++ y) ++ w ≡ z → Fails grew faults a z c
fails_more grew faults a b c x y w z p q e = record {
  same_reference = q.same_reference ∙ p.same_reference;
  later = omega (arith, p.later, q.later);
  failed = q.failed;
  rose = λ _. let r = q.rose p.sound in omega (arith, p.later, r);
  adds_part = part_before grew a c (x ++ y) w z (adds_part grew a b c x y (x ++ y) p.adds q.adds_part refl) e;
}

-- a call failed before more was put
pub fails_before : {K : Type 0} (grew : K → List ℕ → K → Type 0) (faults : K → ℕ) (a b : Putter K) (x w z : List ℕ)
    → Fails grew faults a x b → x ++ w ≡ z → Fails grew faults a z b
fails_before grew faults a b x w z p e = record {
  same_reference = p.same_reference;
  later = p.later;
  failed = p.failed;
  rose = p.rose;
  adds_part = part_before grew a b x w z p.adds_part e;
}
