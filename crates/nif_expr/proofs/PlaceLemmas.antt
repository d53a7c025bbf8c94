-- The paths of slots, looked at from the last place on.
use Rattle.std.proofs.Common.{◌≡◌, ℕ, zero, suc, ◌-◌, ◌<◌, ◌≤◌, Bool, false, List, [], ◌∷◌, ◌++◌, length, take, refl, sym, ◌∙◌, ap, arith, get_or}
use Rattle.std.specs.Prelude.{reverse, slice_index, drop, IsTrue}
use Rattle.std.proofs.Math.Seq.{take-length}
use Rattle.nif_expr.specs.Value.{Names, first_value, look, bound}
use Rattle.nif_expr.proofs.Looking.{first_value-hit, first_value-miss}

pub slot_after : (slots : List ℕ) (i : ℕ) → slice_index (drop 1 slots) i ≡ slice_index slots (suc i)
slot_after [] i = refl
slot_after (slot ∷ slots) i = refl

pub length_bound : (paths : List Names) (slots : List ℕ) → length (bound paths slots) ≡ length paths
length_bound [] slots = refl
length_bound (path ∷ paths) slots = ap suc (length_bound paths (drop 1 slots))

-- one more path
take_bound : (paths : List Names) (slots : List ℕ) (i : ℕ) (d : Names) → i < length paths
    → take (suc i) (bound paths slots) ≡ take i (bound paths slots) ++ (get_or paths i d, slice_index slots i) ∷ []
take_bound [] slots i d lt = absurd (omega (arith, lt))
take_bound (path ∷ paths) slots zero d lt = refl
take_bound (path ∷ paths) slots (suc i) d lt =
    let less : i < length paths = omega (arith, lt) in
    rw (take_bound paths (drop 1 slots) i d less, slot_after slots i) refl

one_less : (n i : ℕ) → i ≡ n - 1 → 0 < n → n ≡ suc i
one_less n i e lt = omega (arith, e, lt)

-- the last path that is left
last_bound : (paths : List Names) (slots : List ℕ) (n : ℕ) (last : Names) → 0 < n → n ≤ length paths → last ≡ get_or paths (n - 1) last
    → take n (bound paths slots) ≡ take (n - 1) (bound paths slots) ++ (last, slice_index slots (n - 1)) ∷ []
last_bound paths slots n last some le is =
    let less : n - 1 < length paths = omega (arith, some, le) in
    ap (λ k. take k (bound paths slots)) (one_less n (n - 1) refl some)
    ∙ take_bound paths slots (n - 1) last less
    ∙ ap (λ path. take (n - 1) (bound paths slots) ++ (path, slice_index slots (n - 1)) ∷ []) (sym is)

-- it is the same
pub found_here : (paths : List Names) (path last : Names) (n : ℕ) → 0 < n → n ≤ length paths → last ≡ get_or paths (n - 1) last → last ≡ path
    → (slots : List ℕ) → first_value (reverse (take n (bound paths slots))) path ≡ look (bound paths slots) path
    → slice_index slots (n - 1) ≡ look (bound paths slots) path
found_here paths path last n some le is same slots left =
    sym (first_value-hit _ _ (last, slice_index slots (n - 1)) path (last_bound paths slots n last some le is) same) ∙ left

-- it is another
pub found_before : (paths : List Names) (path last : Names) (n : ℕ) (r : Bool) → 0 < n → n ≤ length paths → last ≡ get_or paths (n - 1) last
    → (last ≡ path → IsTrue r) → r ≡ false
    → (slots : List ℕ) → first_value (reverse (take n (bound paths slots))) path ≡ look (bound paths slots) path
    → first_value (reverse (take (n - 1) (bound paths slots))) path ≡ look (bound paths slots) path
found_before paths path last n r some le is told other slots left =
    sym (first_value-miss _ _ (last, slice_index slots (n - 1)) path r (last_bound paths slots n last some le is) told other) ∙ left

-- before the first step all are left
pub found_of_all : (paths : List Names) (path : Names) (n : ℕ) → n ≡ length paths
    → (slots : List ℕ) → first_value (reverse (take n (bound paths slots))) path ≡ look (bound paths slots) path
found_of_all paths path n e slots =
    ap (λ xs. first_value (reverse xs) path) (ap (λ k. take k (bound paths slots)) (e ∙ sym (length_bound paths slots)) ∙ take-length (bound paths slots))

-- none is left
pub found_nowhere : (paths : List Names) (path : Names) (n : ℕ) → (0 < n → ⊥)
    → (slots : List ℕ) → first_value (reverse (take n (bound paths slots))) path ≡ look (bound paths slots) path
    → 0 ≡ look (bound paths slots) path
found_nowhere paths path zero none slots left = left
found_nowhere paths path (suc n) none slots left = absurd (none (omega arith))
