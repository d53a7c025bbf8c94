-- What a write to the sink of a putter means for all that was put.
use Rattle.std.proofs.Common.{◌≡◌, ◌≤◌, ℕ, List, [], ◌++◌, take, drop, arith, ap, sym, ◌∙◌, append_assoc, append-nil, subst, refl}
use Rattle.std.proofs.lemmas.List.{take-append-drop}
use Rattle.nif_base.specs.Outside.{Rose}
use Rattle.nif_stream.specs.declared.putters.Putter.{Putter}
use Rattle.nif_stream.specs.Putting.{IsSound, HasFailed, HasTaken, HasPut, Adds, AddsPart, Puts, Fails}
use Rattle.nif_stream.specs.PutterLaws.{taken_first}

module _ {K : Type 0} (grew : K → List ℕ → K → Type 0) (joined : (a b c : K) (x y z : List ℕ) → grew a x b → grew b y c → x ++ y ≡ z → grew a z c) where
  behind : (sent x y held bytes all : List ℕ) → x ++ y ≡ held ++ bytes → sent ++ held ≡ all → (sent ++ x) ++ y ≡ all ++ bytes
  behind sent x y held bytes all e is =
      append_assoc sent x y ∙ ap (λ l. sent ++ l) e ∙ sym (append_assoc sent held bytes) ∙ ap (λ l. l ++ bytes) is

  -- the sink took x, and what was pending with the bytes begins with x
  takes_write : (start : K) (a : Putter K) (t : K) (bytes x y all : List ℕ) → grew a.sink.now x t → x ++ y ≡ a.pending ++ bytes → HasPut grew start a all → HasTaken grew start t (all ++ bytes)
  unfolding HasPut
  takes_write start a t bytes x y all g e h =
      taken_first grew start t (h.0 ++ x) y (all ++ bytes) (joined _ _ _ _ _ _ h.1 g refl) (behind h.0 x y a.pending bytes all e h.2)

  -- the sink took the first of what was pending
  pub takes_pending : (start : K) (a : Putter K) (t : K) (n : ℕ) (held all : List ℕ) → held ≡ a.pending → grew a.sink.now (take n held) t → HasPut grew start a all → HasTaken grew start t all
  takes_pending start a t n held all is g h =
      subst (λ l. HasTaken grew start t l) (append-nil all)
      (takes_write start a t [] (take n held) (drop n held) all g (take-append-drop n held ∙ is ∙ sym (append-nil a.pending)) h)

  -- the sink took all that was pending
  pub takes_rest : (start : K) (a : Putter K) (t : K) (held all : List ℕ) → held ≡ a.pending → grew a.sink.now held t → HasPut grew start a all → grew start all t
  unfolding HasPut
  takes_rest start a t held all is g h = joined _ _ _ _ _ _ h.1 g (ap (λ l. h.0 ++ l) is ∙ h.2)

  -- the sink took x, and the rest of what was pending with the bytes is pending
  pub puts_write : (faults : K → ℕ) (a b : Putter K) (bytes x : List ℕ) → grew a.sink.now x b.sink.now → x ++ b.pending ≡ a.pending ++ bytes
      → b.sink.ghost_name ≡ a.sink.ghost_name → faults a.sink.now ≤ faults b.sink.now → IsSound b → Puts grew faults a bytes b
  unfolding Adds HasPut
  puts_write faults a b bytes x g e same_reference later sound = record {
    same_reference = same_reference;
    later = later;
    sound = sound;
    adds = λ start all h. (h.0 ++ x, joined _ _ _ _ _ _ h.1 g refl, behind h.0 x b.pending a.pending bytes all e h.2);
  }

  -- the sink took the first of what was pending with the bytes, and a write failed
  pub fails_write : (faults : K → ℕ) (a b : Putter K) (bytes written : List ℕ) (n : ℕ) → grew a.sink.now (take n written) b.sink.now → written ≡ a.pending ++ bytes
      → b.sink.ghost_name ≡ a.sink.ghost_name → faults a.sink.now ≤ faults b.sink.now → HasFailed b → Rose (faults a.sink.now) (faults b.sink.now) → Fails grew faults a bytes b
  unfolding AddsPart
  fails_write faults a b bytes written n g e same_reference later failed rose = record {
    same_reference = same_reference;
    later = later;
    failed = failed;
    rose = λ _. rose;
    adds_part = λ start all h. takes_write start a b.sink.now bytes (take n written) (drop n written) all g (take-append-drop n written ∙ e) h;
  }

-- of what was put the sink took the first
pub put_taken : {K : Type 0} (grew : K → List ℕ → K → Type 0) (start : K) (a : Putter K) (all : List ℕ) → HasPut grew start a all → HasTaken grew start a.sink.now all
unfolding HasPut
put_taken grew start a all h = taken_first grew start a.sink.now h.0 a.pending all h.1 h.2

-- a putter that has failed stays as it is
pub fails_again : {K : Type 0} (grew : K → List ℕ → K → Type 0) (faults : K → ℕ) (a : Putter K) (bytes : List ℕ) → HasFailed a → Fails grew faults a bytes a
unfolding AddsPart HasPut
fails_again grew faults a bytes failed = record {
  same_reference = refl;
  later = omega arith;
  failed = failed;
  rose = λ sound. cc;
  adds_part = λ start all h. taken_first grew start a.sink.now h.0 (a.pending ++ bytes) (all ++ bytes) h.1 (sym (append_assoc h.0 a.pending bytes) ∙ ap (λ l. l ++ bytes) h.2);
}
