-- Words that read nothing give the same number whatever the slots and the argument are.
use Rattle.std.proofs.Common.{◌≡◌, ℕ, false, ◌≤◌, List, [], ◌∷◌, length, take, refl, sym, ◌∙◌, ap, true≢false}
use Rattle.std.specs.List.{list_any}
use Rattle.std.proofs.lemmas.List.{take_all}
use Rattle.nif_expr.specs.declared.codes.CodeWord.{CodeWord}
use Rattle.nif_expr.specs.declared.codes.CodeWord.TheVariants.{Number, Arg, Slot, Not, Two, Swapped}
use Rattle.nif_expr.specs.Codes.{reads, exec, ran, top_of}

exec_constant : (words : List CodeWord) (slots others : List ℕ) (arg other : ℕ) (stack : List ℕ) → list_any reads words ≡ false
    → exec words slots arg stack ≡ exec words others other stack
exec_constant [] slots others arg other stack none = refl
exec_constant (Number n ∷ words) slots others arg other stack none = exec_constant words slots others arg other _ none
exec_constant (Arg ∷ words) slots others arg other stack none = absurd (true≢false none)
exec_constant (Slot n ∷ words) slots others arg other stack none = absurd (true≢false none)
exec_constant (Not ∷ words) slots others arg other stack none = exec_constant words slots others arg other _ none
exec_constant (Two op ∷ words) slots others arg other stack none = exec_constant words slots others arg other _ none
exec_constant (Swapped op ∷ words) slots others arg other stack none = exec_constant words slots others arg other _ none

pub ran_constant : (words : List CodeWord) (others : List ℕ) (other n : ℕ) → list_any reads words ≡ false → n ≡ ran words others other
    → (slots : List ℕ) (arg : ℕ) → ran words slots arg ≡ n
ran_constant words others other n none e slots arg = ap top_of (exec_constant words slots others arg other [] none) ∙ sym e

pub none_read : (words items : List CodeWord) (at : ℕ) → items ≡ words → length items ≤ at → list_any reads (take at items) ≡ false
    → list_any reads words ≡ false
none_read words items at same all none = sym (ap (list_any reads) (take_all at items all ∙ same)) ∙ none
