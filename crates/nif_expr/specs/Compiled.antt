-- What compiling an expression puts behind the words that are there.
use Rattle.std.specs.Prelude.{◌≡◌, ℕ, ◌+◌, ◌*◌, ◌^◌, ◌≤◌, List, ◌∷◌, ◌++◌, length}
use Rattle.nif_expr.specs.declared.codes.CodeWord.{CodeWord}
use Rattle.nif_expr.specs.Codes.{exec, fits}

-- The words put a value on the stack, whatever the slots and the argument are, and need place for so many numbers.
-- A need of n takes at least 2 ^ (n - 1) words.
pub record Computes (words : List CodeWord) (need : ℕ) (of : List ℕ → ℕ → ℕ) : Type 0 where
  pub value : (slots : List ℕ) (arg : ℕ) (stack : List ℕ) → exec words slots arg stack ≡ of slots arg ∷ stack
  pub place : (height : ℕ) (more : List CodeWord) → height + need ≤ 64
      → fits (words ++ more) height ≡ fits more (height + 1)
  pub few : 2 ^ need ≤ 2 * length words

-- behind the old words stand words that compute a value
pub record Adds (old new : List CodeWord) (need : ℕ) (of : List ℕ → ℕ → ℕ) : Type 0 where
  pub added : List CodeWord
  pub behind : new ≡ old ++ added
  pub computes : Computes added need of
