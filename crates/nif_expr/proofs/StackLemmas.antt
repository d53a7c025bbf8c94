-- The lowest numbers of an array as a stack, whose top stands first.
use Rattle.std.proofs.Common.{◌≡◌, ℕ, ◌+◌, ◌<◌, List, [], ◌∷◌, length, refl, ◌∙◌, add-one, arith, take, get_or, get_or-set_same}
use Rattle.std.proofs.Math.ListN.{set, length-set}
use Rattle.std.proofs.Math.Seq.{take-suc}
use Rattle.std.proofs.lemmas.List.{reverse-append, take-set}
use Rattle.std.specs.Prelude.{reverse}
use Rattle.nif_expr.specs.Codes.{on_two, on_top}

-- the topmost and those below
pub popped : (s : List ℕ) (t : ℕ) → t < length s → reverse (take (t + 1) s) ≡ get_or s t 0 ∷ reverse (take t s)
popped s t lt = rw (add-one, take-suc s t 0 lt) (reverse-append (take t s) (get_or s t 0 ∷ []))

-- one more
pub pushed : (s : List ℕ) (t v : ℕ) → t < length s → reverse (take (t + 1) (set s t v)) ≡ v ∷ reverse (take t s)
pushed s t v lt =
    let within : t < length (set s t v) = omega (arith, length-set {A = ℕ}) in
    popped (set s t v) t within ∙ rw (get_or-set_same s t v 0 lt, take-set s t v) refl

-- the topmost is changed
pub changed : (s : List ℕ) (t k : ℕ) (f : ℕ → ℕ) → t ≡ k + 1 → k < length s → reverse (take t (set s k (f (get_or s k 0)))) ≡ on_top f (reverse (take t s))
changed s t k f e lt = rw (e, popped s k lt) (pushed s k _ lt)

-- the two topmost are joined
pub joined : (s : List ℕ) (t j k : ℕ) (f : ℕ → ℕ → ℕ) → j ≡ k + 1 → t ≡ k + 1 + 1 → k + 1 < length s → reverse (take j (set s k (f (get_or s k 0) (get_or s j 0)))) ≡ on_two f (reverse (take t s))
joined s t j k f ej et lt =
    let below : k < length s = omega arith in
    rw (ej, et, popped s (k + 1) lt, popped s k below) (pushed s k _ below)

-- of one number alone the topmost is the first
pub only : (s : List ℕ) (t : ℕ) → t ≡ 1 → 0 < length s → reverse (take t s) ≡ get_or s 0 0 ∷ []
only s t e lt = rw e (popped s 0 lt)
