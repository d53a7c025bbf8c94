-- The first pair from the end.
use Rattle.std.proofs.Common.{◌≡◌, ℕ, Bool, true, false, List, [], ◌∷◌, ◌++◌, cond, length, arith, refl, sym, ap, ◌∙◌}
use Rattle.std.specs.Prelude.{reverse, IsTrue}
use Rattle.std.proofs.lemmas.List.{reverse-append}
use Rattle.nif_expr.specs.Value.{Names, is_same, first_value}
use lib.Pointwise.{pointwise_decides, bytes_decides}

apart : {P : Type 0} (s r : Bool) → (s ≡ true → P) → (P → IsTrue r) → r ≡ false → s ≡ false
apart false r same told other = refl
apart true r same told other = sym (told (same refl)) ∙ other

-- the newest pair has the path, or it is passed
pub first_value-push : (pairs : List (Names × ℕ)) (x : Names × ℕ) (path : Names)
    → first_value (reverse (pairs ++ x ∷ [])) path ≡ cond (is_same x.0 path) x.1 (first_value (reverse pairs) path)
first_value-push pairs x path = ap (λ xs. first_value xs path) (reverse-append pairs (x ∷ []))

pub first_value-hit : (all pairs : List (Names × ℕ)) (x : Names × ℕ) (path : Names) → all ≡ pairs ++ x ∷ [] → x.0 ≡ path
    → first_value (reverse all) path ≡ x.1
first_value-hit all pairs x path e same =
    ap (λ xs. first_value (reverse xs) path) e
    ∙ first_value-push pairs x path
    ∙ ap (λ b. cond b x.1 (first_value (reverse pairs) path)) ((pointwise_decides bytes_decides x.0 path).1 same)

pub first_value-miss : (all pairs : List (Names × ℕ)) (x : Names × ℕ) (path : Names) (r : Bool) → all ≡ pairs ++ x ∷ []
    → (x.0 ≡ path → IsTrue r) → r ≡ false
    → first_value (reverse all) path ≡ first_value (reverse pairs) path
first_value-miss all pairs x path r e told other =
    ap (λ xs. first_value (reverse xs) path) e
    ∙ first_value-push pairs x path
    ∙ ap (λ b. cond b x.1 (first_value (reverse pairs) path)) (apart (is_same x.0 path) r ((pointwise_decides bytes_decides x.0 path).0) told other)

pub first_value-none : (pairs : List (Names × ℕ)) (path : Names) → length pairs ≡ 0 → 0 ≡ first_value (reverse pairs) path
first_value-none [] path e = refl
first_value-none (x ∷ pairs) path e = absurd (omega (arith, e))
