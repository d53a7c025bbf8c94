-- Words that all are numbers.
use Rattle.std.proofs.Common.{◌≡◌, ℕ, List, [], ◌∷◌, ◌++◌, Some, None, Option, refl, sym, ap, ◌∙◌, append_assoc, append-nil}
use Rattle.std.specs.Option.{option_map}
use Rattle.nif_script.specs.Forms.{Text, both, number_of, numbers_of}

behind : (before : List ℕ) (number : ℕ) (numbers : Option (List ℕ)) → option_map (λ more. before ++ more) (option_map (λ more. number ∷ more) numbers)
    ≡ option_map (λ more. (before ++ number ∷ []) ++ more) numbers
behind before number None = refl
behind before number (Some numbers) = ap Some (sym (append_assoc before (number ∷ []) numbers))

-- one more number was read
pub numbers_more : (before after : List ℕ) (all : Option (List ℕ)) (old words : List Text) (word : Text) (number : ℕ)
    → all ≡ option_map (λ more. before ++ more) (numbers_of old) → old ≡ word ∷ words → number_of word ≡ Some number
    → after ≡ before ++ number ∷ [] → all ≡ option_map (λ more. after ++ more) (numbers_of words)
numbers_more before after all old words word number read is found new =
    read ∙ ap (λ l. option_map (λ more. before ++ more) (numbers_of l)) is
    ∙ ap (λ o. option_map (λ more. before ++ more) (both (λ n ns. n ∷ ns) o (numbers_of words))) found
    ∙ behind before number (numbers_of words)
    ∙ ap (λ l. option_map (λ more. l ++ more) (numbers_of words)) (sym new)

-- a word is no number
pub numbers_none : (before : List ℕ) (all : Option (List ℕ)) (old words : List Text) (word : Text)
    → all ≡ option_map (λ more. before ++ more) (numbers_of old) → old ≡ word ∷ words → number_of word ≡ None → None ≡ all
numbers_none before all old words word read is none =
    sym (read ∙ ap (λ l. option_map (λ more. before ++ more) (numbers_of l)) is
    ∙ ap (λ o. option_map (λ more. before ++ more) (both (λ n ns. n ∷ ns) o (numbers_of words))) none)

-- no word is left
pub numbers_done : (before : List ℕ) (all : Option (List ℕ)) (old : List Text) → all ≡ option_map (λ more. before ++ more) (numbers_of old) → old ≡ [] → Some before ≡ all
numbers_done before all old read is =
    sym (read ∙ ap (λ l. option_map (λ more. before ++ more) (numbers_of l)) is ∙ ap Some (append-nil before))
