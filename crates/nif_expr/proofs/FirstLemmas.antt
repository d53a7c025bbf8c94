-- What stands at the front of a text, by its first byte.
use Rattle.std.proofs.Common.{◌≡◌, ℕ, true, false, List, Option, None, Some, sym, ap, ◌∙◌, subst}
use Rattle.nif_schema.specs.Expression.{Tree, Number}
use Rattle.nif_expr.specs.Value.{Names}
use Rattle.nif_base.specs.Ascii.{is_digit}
use Rattle.nif_expr.specs.Bytes.{is_letter, is_in_number, begins, front, after}
use Rattle.nif_expr.specs.Number.{IsNumber}
use Rattle.nif_expr.specs.Parts.{Part, Operand, First, sign, number, path, Joined, signs, first_sign, operand_of}
use Rattle.nif_expr.proofs.OneReading.{unlike, sign-apart, plain-letter, plain-digit, letter-begins, Joined-letter}

pub path_none : (text : List ℕ) → begins is_letter text ≡ true → ((names : Names) (rest : List ℕ) → Joined text names rest → ⊥)
    → (p : Part) (rest : List ℕ) → First text p rest → ⊥
path_none text letter other p rest (sign found) = unlike letter (sign-apart is_letter plain-letter text rest p found)
path_none text letter other _ _ (number digit n) = letter-begins text letter digit
path_none text letter other _ rest (path {names = names} joined) = other names rest joined

pub number_none : (text run : List ℕ) → begins is_digit text ≡ true → run ≡ front is_in_number text → ((n : ℕ) → IsNumber run n → ⊥)
    → (p : Part) (rest : List ℕ) → First text p rest → ⊥
number_none text run digit taken other p rest (sign found) = unlike digit (sign-apart is_digit plain-digit text rest p found)
number_none text run digit taken other _ _ (number {n = n} begin spelled) = other n (subst (λ x. IsNumber x n) (sym taken) spelled)
number_none text run digit taken other _ rest (path {names = names} joined) = letter-begins text (Joined-letter text names rest joined) digit

pub number_some : (text run rest : List ℕ) (n : ℕ) (e : Tree) → e ≡ Number n → begins is_digit text ≡ true → run ≡ front is_in_number text
    → rest ≡ after is_in_number text → IsNumber run n → First text (Operand e) rest
number_some text run rest n e is digit taken left spelled =
    subst (λ x. First text (Operand x) rest) (sym is)
    (subst (λ x. First text (Operand (Number n)) x) (sym left) (number digit (subst (λ x. IsNumber x n) taken spelled)))

pub sign_none : (text : List ℕ) → begins is_letter text ≡ false → begins is_digit text ≡ false → first_sign signs text ≡ None
    → (p : Part) (rest : List ℕ) → First text p rest → ⊥
sign_none text letter digit other p rest (sign found) = let e : ◌≡◌ {A = Option (Part × List ℕ)} None (Some (p, rest)) = sym other ∙ found in cc
sign_none text letter digit other _ _ (number begin n) = unlike begin digit
sign_none text letter digit other _ rest (path {names = names} joined) = unlike (Joined-letter text names rest joined) letter

pub sign_some : (text rest : List ℕ) (p q : Part) → p ≡ q → first_sign signs text ≡ Some (q, rest) → First text p rest
sign_some text rest p q same found = sign (found ∙ ap (λ x. Some (x, rest)) (sym same))

pub path_some : (text rest : List ℕ) (names : Names) (e : Tree) → e ≡ operand_of names → Joined text names rest → First text (Operand e) rest
path_some text rest names e is joined = subst (λ x. First text (Operand x) rest) (sym is) (path joined)
