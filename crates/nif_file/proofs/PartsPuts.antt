-- What was put of the parts of a file so far.
use Rattle.std.proofs.Common.{◌≡◌, ℕ, ◌+◌, ◌≤◌, List, [], ◌++◌, length, drop, Option, None, Some, IsSome, IfSome, slice_get, unwrap_or, refl, sym, ◌∙◌, ap, subst, arith, append_assoc, append-nil}
use Rattle.std.specs.List.{flat_map}
use Rattle.std.specs.Option.{IsSomeAnd}
use Rattle.nif_base.specs.Node.{Node}
use Rattle.nif_stream.specs.declared.putters.Putter.{Putter}
use Rattle.nif_stream.specs.Putting.{IsSound, Puts, Fails}
use Rattle.nif_stream.specs.PutterLaws.{adds_none, puts_more, fails_more}
use Rattle.nif_file.proofs.FieldPlaces.{drop_at, drop_past}

-- ---- a tree of a store

pub at_node : (P : Node → Type 0) (found : Option Node) (other : Node) → IsSome found → IfSome found P → P (unwrap_or found other)
at_node P None other some h = absurd (cc)
at_node P (Some node) other some h = h

pub is_there : (P : Node → Type 0) (found : Option Node) → IsSomeAnd found P → IsSome found
is_there P None h = absurd h
is_there P (Some node) h = refl

-- ---- bytes

pub puts_none : {K : Type 0} (grew : K → List ℕ → K → Type 0) (faults : K → ℕ) (a : Putter K) → IsSound a → Puts grew faults a [] a
puts_none grew faults a sound = record { same_reference = refl; later = omega arith; sound = sound; adds = adds_none grew a [] refl }

-- of a list the texts of the first were put
pub record PutsFirst {A K : Type 0} (grew : K → List ℕ → K → Type 0) (faults : K → ℕ) (old : Putter K) (spelled : A → List ℕ) (all : List A) (i : ℕ) (now : Putter K) : Type 0 where
  pub done : List ℕ
  pub puts : Puts grew faults old done now
  pub whole : done ++ flat_map spelled (drop i all) ≡ flat_map spelled all

pub first_none : {A K : Type 0} (grew : K → List ℕ → K → Type 0) (faults : K → ℕ) (old : Putter K) (spelled : A → List ℕ) (all : List A) → IsSound old → PutsFirst grew faults old spelled all 0 old
first_none grew faults old spelled all sound = record { done = []; puts = puts_none grew faults old sound; whole = refl }

pub first_next : {A K : Type 0} (grew : K → List ℕ → K → Type 0) (faults : K → ℕ) (old mid new : Putter K) (spelled : A → List ℕ) (all : List A) (i : ℕ) (x : A)
    → PutsFirst grew faults old spelled all i mid → slice_get all i ≡ Some x → Puts grew faults mid (spelled x) new → PutsFirst grew faults old spelled all (i + 1) new
first_next grew faults old mid new spelled all i x so_far at put = record {
  done = so_far.done ++ spelled x;
  puts = puts_more grew faults old mid new so_far.done (spelled x) (so_far.done ++ spelled x) so_far.puts put refl;
  whole = append_assoc so_far.done (spelled x) (flat_map spelled (drop (i + 1) all)) ∙ ap (λ l. so_far.done ++ flat_map spelled l) (sym (drop_at all i x at)) ∙ so_far.whole;
}

pub first_failed : {A K : Type 0} (grew : K → List ℕ → K → Type 0) (faults : K → ℕ) (old mid new : Putter K) (spelled : A → List ℕ) (all : List A) (i : ℕ) (x : A)
    → PutsFirst grew faults old spelled all i mid → slice_get all i ≡ Some x → Fails grew faults mid (spelled x) new → Fails grew faults old (flat_map spelled all) new
first_failed grew faults old mid new spelled all i x so_far at failed =
    fails_more grew faults old mid new so_far.done (spelled x) (flat_map spelled (drop (i + 1) all)) (flat_map spelled all) so_far.puts failed
    (append_assoc so_far.done (spelled x) (flat_map spelled (drop (i + 1) all)) ∙ ap (λ l. so_far.done ++ flat_map spelled l) (sym (drop_at all i x at)) ∙ so_far.whole)

pub first_all : {A K : Type 0} (grew : K → List ℕ → K → Type 0) (faults : K → ℕ) (old now : Putter K) (spelled : A → List ℕ) (all : List A) (i : ℕ)
    → PutsFirst grew faults old spelled all i now → length all ≤ i → Puts grew faults old (flat_map spelled all) now
first_all grew faults old now spelled all i so_far past =
    subst (λ l. Puts grew faults old l now) (sym (append-nil so_far.done) ∙ ap (λ l. so_far.done ++ flat_map spelled l) (sym (drop_past all i past)) ∙ so_far.whole) so_far.puts
