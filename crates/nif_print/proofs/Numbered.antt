-- The texts of items one behind another, each by the number of its item.
use Rattle.std.proofs.Common.{◌≡◌, ℕ, zero, suc, ◌+◌, ◌≤◌, List, [], ◌∷◌, ◌++◌, length, take, drop, refl, sym, ap, ◌∙◌, subst, arith, append_assoc, append-nil, add-one}
use Rattle.std.specs.Prelude.{slice_get, Some, unwrap_or}
use Rattle.std.proofs.lemmas.List.{take_all}
use Rattle.nif_stream.specs.declared.putters.Putter.{Putter}
use Rattle.nif_stream.specs.Putting.{IsSound, Puts, Fails}
use Rattle.nif_stream.specs.PutterLaws.{adds_none, puts_more, fails_more}
use Rattle.nif_print.specs.References.{by_number}

-- one text more
more : {X : Type 0} (text : ℕ → X → List ℕ) (n : ℕ) (items : List X) (k m : ℕ) (item : X) → slice_get items k ≡ Some item → n + k ≡ m
    → by_number text n (take k items) ++ text m item ≡ by_number text n (take (suc k) items)
more text n [] k m item at e = absurd (cc)
more text n (x ∷ items) zero m item at e =
    let same : m ≡ n = omega (arith, e) in
    ap (λ i. text i item) same ∙ ap (λ o. text n (unwrap_or o item)) (sym at) ∙ sym (append-nil (text n x))
more text n (x ∷ items) (suc k) m item at e =
    append_assoc (text n x) (by_number text (suc n) (take k items)) (text m item) ∙ ap (λ l. text n x ++ l) (more text (suc n) items k m item at (omega (arith, e)))

-- and those behind it
rest : {X : Type 0} (text : ℕ → X → List ℕ) (n : ℕ) (items : List X) (k m : ℕ) → n + k ≡ m
    → by_number text n (take k items) ++ by_number text m (drop k items) ≡ by_number text n items
rest text n items zero m e =
    let same : m ≡ n = omega (arith, e) in
    ap (λ i. by_number text i items) same
rest text n [] (suc k) m e = refl
rest text n (x ∷ items) (suc k) m e =
    append_assoc (text n x) (by_number text (suc n) (take k items)) (by_number text m (drop k items)) ∙ ap (λ l. text n x ++ l) (rest text (suc n) items k m (omega (arith, e)))

-- no text was put
pub puts_none : {K : Type 0} (grew : K → List ℕ → K → Type 0) (faults : K → ℕ) (a : Putter K) → IsSound a → Puts grew faults a [] a
puts_none grew faults a sound = record { same_reference = refl; later = omega arith; sound = sound; adds = adds_none grew a [] refl }

from_start : (k : ℕ) → 0 + k ≡ k
from_start k = omega arith

-- one text more was put
pub puts_next : {K X : Type 0} (grew : K → List ℕ → K → Type 0) (faults : K → ℕ) (a b c : Putter K) (text : ℕ → X → List ℕ) (items : List X) (k : ℕ) (item : X)
    → Puts grew faults a (by_number text 0 (take k items)) b → slice_get items k ≡ Some item → Puts grew faults b (text k item) c
    → Puts grew faults a (by_number text 0 (take (k + 1) items)) c
puts_next grew faults a b c text items k item before at put =
    rw add-one (puts_more grew faults a b c (by_number text 0 (take k items)) (text k item) (by_number text 0 (take (suc k) items)) before put (more text 0 items k k item at (from_start k)))

-- a write failed at a text, so that the first of all was put
pub fails_next : {K X : Type 0} (grew : K → List ℕ → K → Type 0) (faults : K → ℕ) (a b c : Putter K) (text : ℕ → X → List ℕ) (items : List X) (k : ℕ) (item : X)
    → Puts grew faults a (by_number text 0 (take k items)) b → slice_get items k ≡ Some item → Fails grew faults b (text k item) c
    → Fails grew faults a (by_number text 0 items) c
fails_next grew faults a b c text items k item before at failed =
    fails_more grew faults a b c (by_number text 0 (take k items)) (text k item) (by_number text (suc k) (drop (suc k) items)) (by_number text 0 items) before failed
    (ap (λ l. l ++ by_number text (suc k) (drop (suc k) items)) (more text 0 items k k item at (from_start k)) ∙ rest text 0 items (suc k) (suc k) (from_start (suc k)))

-- all texts were put
pub puts_all : {K X : Type 0} (grew : K → List ℕ → K → Type 0) (faults : K → ℕ) (a b : Putter K) (text : ℕ → X → List ℕ) (items : List X) (k : ℕ)
    → Puts grew faults a (by_number text 0 (take k items)) b → length items ≤ k → Puts grew faults a (by_number text 0 items) b
puts_all grew faults a b text items k put h = subst (λ l. Puts grew faults a (by_number text 0 l) b) (take_all k items h) put
