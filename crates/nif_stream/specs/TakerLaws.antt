-- How calls that take bytes through one taker join.
use Rattle.std.proofs.Common.{◌≡◌, ◌≢◌, ℕ, ◌+◌, ◌^◌, ◌<◌, ◌≤◌, List, [], ◌++◌, length, Option, Some, None, ap, sym, ◌∙◌, append_assoc, refl, subst, arith, length-append}
use Rattle.std.specs.Prelude.{IfSome}
use Rattle.nif_base.specs.Limits.{most_file_bytes}
use Rattle.nif_base.specs.Outside.{prepended}
use Rattle.nif_base.specs.Reading.{TakesAtMost}
use Rattle.nif_stream.specs.declared.takers.Taker.{Taker}
use Rattle.nif_stream.specs.declared.takers.TakeFault.TheVariants.{Ended, TooLong}
use Rattle.nif_stream.specs.Taking.{source_of, KeepsStill, Takes, need_fault}

-- nothing was done
pub keeps_same : {S : Type 0} (still : S → S → Type 0) (a b : Taker S) → source_of b ≡ source_of a
    → KeepsStill still a b
unfolding KeepsStill
keeps_same still a b e = λ start h. subst (λ s. still start s) (sym e) h

pub keeps_joined : {S : Type 0} (still : S → S → Type 0) (a b c : Taker S) → KeepsStill still a b
    → KeepsStill still b c → KeepsStill still a c
unfolding KeepsStill
keeps_joined still a b c p q = λ start h. q start (p start h)

-- since a start nothing but reads was done
pub still_kept : {S : Type 0} (still : S → S → Type 0) (start : S) (a b : Taker S) → still start (source_of a)
    → KeepsStill still a b → still start (source_of b)
unfolding KeepsStill
still_kept still start a b h p = p start h

pub prepended_none : (o : Option (List ℕ)) → o ≡ prepended [] o
prepended_none None = refl
prepended_none (Some l) = refl

pub prepended_joined : (o p q : Option (List ℕ)) (x y z : List ℕ) → o ≡ prepended x p → p ≡ prepended y q → x ++ y ≡ z
    → o ≡ prepended z q
prepended_joined o p None x y z d e is = d ∙ ap (prepended x) e
prepended_joined o p (Some l) x y z d e is =
    d ∙ ap (prepended x) e ∙ ap Some (sym (append_assoc x y l) ∙ ap (λ m. m ++ l) is)

-- a fact of what is left after some bytes were given
pub if_prepended : (P : List ℕ → Type 0) (o p : Option (List ℕ)) (x : List ℕ) → o ≡ prepended x p
    → IfSome p (λ rest. P (x ++ rest)) → IfSome o P
if_prepended P o None x e h = subst (λ o. IfSome o P) (sym e) tt
if_prepended P o (Some l) x e h = subst (λ o. IfSome o P) (sym e) h

-- no more bytes are gone than were given
pub takes_most : (n : ℕ) (o p : Option (List ℕ)) (x : List ℕ) → o ≡ prepended x p → length x ≤ n → TakesAtMost n o p
takes_most n o None x e h = subst (λ o. TakesAtMost n o None) (sym e) tt
takes_most n o (Some l) x e h = subst (λ o. TakesAtMost n o (Some l)) (sym e)
    (let k : length (x ++ l) ≤ n + length l = omega (arith, length-append x l) in k)

-- bytes were taken, and then more
pub takes_joined : {S : Type 0} (left : S → Option (List ℕ)) (still : S → S → Type 0) (faults : S → ℕ)
    (a b c : Taker S) (x y z : List ℕ)
    → Takes left still faults a x b → Takes left still faults b y c → x ++ y ≡ z → Takes left still faults a z c
takes_joined left still faults a b c x y z p q e = record {
  same_reference = q.same_reference ∙ p.same_reference;
  keeps = keeps_joined still a b c p.keeps q.keeps;
  later = omega (arith, p.later, q.later);
  sound = q.sound;
  ahead = q.ahead;
  place = omega (arith, p.place, q.place, length-append x y, ap length e);
  within = q.within;
  given = prepended_joined _ _ _ x y z p.given q.given e;
}

-- what the faults say of the bytes left
pub need_short : (place need : ℕ) (bytes : List ℕ) → need_fault place need bytes ≡ Some Ended → length bytes < need
unfolding need_fault
need_short place need bytes e = grind arith

pub need_long : (place need : ℕ) (bytes : List ℕ) → need_fault place need bytes ≡ Some TooLong
    → (most_file_bytes < place + need) × (most_file_bytes < place + length bytes)
unfolding need_fault
need_long place need bytes e = grind arith

pub told_weaker : (P Q : List ℕ → Type 0) (o : Option (List ℕ)) → ((bytes : List ℕ) → P bytes → Q bytes) → IfSome o P
    → IfSome o Q
told_weaker P Q None f h = tt
told_weaker P Q (Some l) f h = f l h

pub ruleset takes =
    (keeps_same, keeps_joined, still_kept, prepended_none, prepended_joined, append_assoc, length-append)
